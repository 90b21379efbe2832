pub mod SentUp
