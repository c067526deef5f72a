-- What writes and truncations do to the pages of plain files.
pub mod PageLaws
pub mod CutLaws
