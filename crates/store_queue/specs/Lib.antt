pub mod StoreQueue
