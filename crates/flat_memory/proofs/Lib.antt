mod AllDomains
mod Pages
mod Stores
