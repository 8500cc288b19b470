-- What is right, in reading order; each definition of a rule names its sentence of document 01.
-- Codes: every code and limit, once.
pub mod Codes
-- Packet: the parts of a packet.
pub mod Packet
-- Acknowledgement: what is wrong with a packet's framing.
pub mod Acknowledgement
-- Commands: what a packet asks for.
pub mod Commands
-- Replies: what is sent back.
pub mod Replies
-- Listing: the packets and replies that 01 prints, and the one claim over them.
pub mod Listing
