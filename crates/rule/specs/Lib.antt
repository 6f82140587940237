-- Which pixels of the judged column may list something. Only inner functions cite this.
pub mod Rule
