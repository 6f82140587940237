-- The samples at nine places, by where their pixels lie. Only inner functions cite this.
pub mod Nine
