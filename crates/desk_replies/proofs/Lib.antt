pub mod PlainTexts
pub mod Parts
pub mod Lines
pub mod ShownClaims
pub mod ClaimViews
pub mod SameDesk
