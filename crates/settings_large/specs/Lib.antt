-- T-10, the settings image of the larger part, in reading order.
-- Contents: what an image says.
pub mod Contents
-- Image: the image of some contents.
pub mod Image
-- Reader: which image is refused, and what an accepted one says.
pub mod Reader
-- Writer: what is written, and where.
pub mod Writer
