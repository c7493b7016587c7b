-- The definitions of the window: its cells and its check, the look-up, the offsets that the program works with, and a window from plain numbers.
pub mod Window
pub mod Look
pub mod Offsets
pub mod Numbers
pub mod Views
