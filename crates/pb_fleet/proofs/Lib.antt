mod Totals
mod Given
mod Telling
