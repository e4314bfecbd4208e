pub mod DaviesMeyer
