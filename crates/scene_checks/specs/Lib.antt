-- A scene's checks. The public promise cites these.
pub mod Checks
