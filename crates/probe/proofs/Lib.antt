-- What fits can be blurred, and what the loop takes of a list.
mod Fitting
mod Numbers
