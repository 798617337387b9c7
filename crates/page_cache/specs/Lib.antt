pub mod PageCache
