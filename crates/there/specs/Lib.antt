-- Which samples of a waveform are there, and what it is with each of them turned about.
pub mod There
pub mod Turned
