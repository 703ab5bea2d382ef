-- Laws of the whole image, and of the count of the joins under way.
pub mod ImageLaws
pub mod CountLaws
