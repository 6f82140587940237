-- The theorem on zeros, level by level, and that it is tight.
pub mod NearLaws
pub mod FitNear
pub mod RefineNear
pub mod PixelNear
pub mod ListNear
pub mod BytesNear
pub mod Tight
