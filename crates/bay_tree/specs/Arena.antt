-- How the index and the links of a tree correspond to the list of its rows.
use Rattle.std.specs.Prelude.{◌≡◌, ℕ, ◌+◌, ◌*◌, ◌%◌, ◌^◌, ◌<◌, ◌≤◌, ◌==◌, Bool, None, List, length, drop, slice_index_or}
use Rattle.std.specs.List.{fold, position_from}
use Rattle.bay_tree.specs.declared.index.Index.{Index}
use Rattle.bay_tree.specs.declared.link.RowLink.{RowLink}
use Rattle.bay_tree.specs.declared.row.Row.{Row}
use Rattle.bay_tree.specs.Names.{IsWordAt}
use Rattle.bay_tree.specs.Rows.{IsTree, name_at, first_below, next_beside}

-- the hash of some octets, extended by one octet
abbrev pub hash_with : ℕ → ℕ → ℕ
hash_with hash octet = (hash * 16777619 % 2 ^ 32 + octet) % 2 ^ 32

-- the bucket of a name, one of `count` buckets
abbrev pub bucket_of : ℕ → List ℕ → ℕ
bucket_of count name = fold hash_with 0 name % count

-- a row is in a bucket
abbrev pub is_in_bucket : ℕ → ℕ → Row → Bool
is_in_bucket count bucket row = bucket_of count row.name == bucket

-- the index leads to the first row of each bucket, and from each row to the next of its bucket; no
-- name is longer than its longest
pub record IsIndex (rows : List Row) (index : Index) : Type 0 where
  pub longest : (k : ℕ) → k < length rows → length (name_at rows k) ≤ index.longest
  pub some : 0 < length index.first.items
  pub first : (b : ℕ) → b < length index.first.items → slice_index_or index.first.items b None
      ≡ position_from (is_in_bucket (length index.first.items) b) 0 rows
  pub long : length index.next.items ≡ length rows
  pub next : (k : ℕ) → k < length rows → slice_index_or index.next.items k None
      ≡ position_from (is_in_bucket (length index.first.items)
      (bucket_of (length index.first.items) (name_at rows k))) (k + 1) (drop (k + 1) rows)

-- the link of the row at an index; past the last row, an empty link
abbrev pub link_at : List RowLink → ℕ → RowLink
link_at links place =
    slice_index_or links place (record { word = 0; below = None; beside = None })

-- each row's link has the offset of its last word, the first row below it and the next row beside
-- it
pub record IsLinked (rows : List Row) (links : List RowLink) : Type 0 where
  pub long : length links ≡ length rows
  pub word : (k : ℕ) → k < length rows → IsWordAt (name_at rows k) (link_at links k).word
  pub below : (k : ℕ) → k < length rows → (link_at links k).below ≡ first_below rows k
  pub beside : (k : ℕ) → k < length rows → (link_at links k).beside ≡ next_beside rows k

-- the invariant of a tree's fields
pub record IsArena (rows : List Row) (index : Index) (links : List RowLink) : Type 0 where
  pub tree : IsTree rows
  pub indexed : IsIndex rows index
  pub linked : IsLinked rows links
