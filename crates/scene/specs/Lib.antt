-- What a scene answers and leaves. The public promise cites these.
pub mod Scene
