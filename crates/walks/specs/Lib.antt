pub mod RowBelow
pub mod RowBelowLaws
pub mod NamesWritten
pub mod NamesWrittenLaws
pub mod RowWalk
pub mod RowWalkLaws
pub mod WalkBytes
pub mod WalkBytesLaws
