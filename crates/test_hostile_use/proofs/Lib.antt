mod ChainLemmas
mod ListLemmas
