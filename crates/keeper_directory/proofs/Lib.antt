mod Digits
mod Heads
mod Ids
mod JournalTexts
mod NamesLeft
mod Reading
