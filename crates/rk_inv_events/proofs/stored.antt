pub mod StoredTaken
