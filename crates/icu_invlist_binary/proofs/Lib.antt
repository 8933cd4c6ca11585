mod UnitLemmas
mod ReadBack
mod LentLemmas
mod ReadFaults
mod PutLemmas
