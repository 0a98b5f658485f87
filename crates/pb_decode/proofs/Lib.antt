mod Pairs
mod SpelledText
