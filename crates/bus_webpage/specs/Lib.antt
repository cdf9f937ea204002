pub mod Webpages
