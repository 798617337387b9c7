pub mod FlatMemory
