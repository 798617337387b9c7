pub mod PageImage
