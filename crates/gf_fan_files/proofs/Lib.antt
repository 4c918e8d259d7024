pub mod LinesLaws  -- lines are found from left to right
pub mod RowTextLaws  -- the machine of rows reads what the grammar says
pub mod ConeTextLaws  -- the machine of lists of ray numbers reads what the grammar says
pub mod NumberTextLaws  -- the machine of a number reads what the grammar says
pub mod ContentLaws  -- the end of a section stands once among its tokens
pub mod KindsLaws  -- of which kind a fault is
pub mod ReadingLaws  -- what a loop over the tokens of a content reads
pub mod FanTextLaws  -- sections are read as the grammar says, and the first fault is refused
pub mod SectionsLaws  -- sections are read one after another
pub mod SpanLaws  -- vectors in the span of others, by Gordan's alternative
pub mod FilesLaws  -- a text says one file at most, and a sound one isn't refused
pub mod FanWordsLaws  -- numbers of cones, and lines that are written one after another
pub mod WrittenLaws  -- sections that are written are read again
pub mod PrintedRowsLaws  -- tokens of printed rows
pub mod PrintedConesLaws  -- tokens of printed numbers and cones
pub mod AgainLaws  -- what is written of a fan is read again
pub mod OnceLaws  -- a text is refused in one way, but for limits
pub mod FanPartsLaws  -- what is written of a fan is read off it
pub mod GeneratedLaws  -- Farkas' lemma; the dual cone of the dual cone
pub mod FilesFansLaws  -- the cones of a file, and why they have no fan
pub mod WrittenFansLaws  -- what is written of a fan is a file whose cones can be built
pub mod CertificateLaws  -- which vectors lie inside a cone of a file
pub mod FanOnceLaws  -- a fan file is refused in one way, but for limits
pub mod ReadAgainLaws  -- what is written of a fan is read as that fan
pub mod MigrationLaws  -- what a fan file is migrated to
