-- What the proofs share, the lowest first.
-- CodeLaws: a code among some codes.
pub mod CodeLaws
-- ReplyLaws: the sizes of replies, and that their pieces join.
pub mod ReplyLaws
-- AcknowledgementLaws: what is acknowledged.
pub mod AcknowledgementLaws
-- CommandLaws: what is read stands in the packet.
pub mod CommandLaws
-- PacketLaws: what an acknowledged packet holds.
pub mod PacketLaws
