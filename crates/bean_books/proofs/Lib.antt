pub mod OneBook
