pub mod NodeRefsLemmas
