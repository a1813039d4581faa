mod SameFields
mod MoreRows
