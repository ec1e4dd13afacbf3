pub mod FeedLemmas
pub mod HexLemmas
pub mod PieceLemmas
pub mod ReportLemmas
