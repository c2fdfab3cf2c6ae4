mod ChangeLemmas
mod DocumentLemmas
mod RoomLemmas
mod SameTexts
mod TwoLookups
