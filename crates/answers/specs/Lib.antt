-- Answers as text. Told: the answers, each in its form. Text: how an answer is written.
pub mod Told
pub mod Text
