-- Demand 3: two boards that nobody without a password can tell apart.
-- LockedBoard: a locked board in its session, by its start and by how it stands.
pub mod LockedBoard
-- LockedCall: a call on it, by a packet without its password.
pub mod LockedCall
-- ToldApart: demand 3, two boards that nobody without a password can tell apart.
pub mod ToldApart
-- ToldApartFromC: demand 3 as C sees it.
pub mod ToldApartFromC
-- AnyPerson: demand 3 for a person who chooses each wait and packet by the replies so far, by value and from C.
pub mod AnyPerson
