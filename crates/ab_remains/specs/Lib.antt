-- Marks that are raised until they count what is named, and what is left of a world that is cut by one.
pub mod RaisedMarks
pub mod NamedThings
pub mod LeftWorlds
