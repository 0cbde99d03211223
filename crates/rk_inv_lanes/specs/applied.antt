pub mod CaughtUp
