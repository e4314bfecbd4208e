mod InPlaceLemmas
mod PageLemmas
mod RecordLemmas
mod ServeLemmas
