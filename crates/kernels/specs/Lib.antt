-- The half kernels of the four levels. The public promises cite these.
pub mod Kernel
