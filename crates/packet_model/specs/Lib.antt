pub mod Length
pub mod Packet
pub mod FrontPacket
pub mod PacketSet
pub mod Metadata
pub mod FileKey
pub mod MetadataError
