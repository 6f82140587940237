-- Laws of the state's bytes and of the calls over them.
pub mod StateLaws
pub mod CallLaws
