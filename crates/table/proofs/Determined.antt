-- Of each public function, any two results that its contract allows for the same arguments are one. Assumes nothing.
use Rattle.paper.specs.Determines.{Determines, ◌&◌}
use Rattle.table.proofs.child.find_child.Reads as FindChild
use Rattle.table.proofs.whole.is_table.Reads as IsTable

pub record Determined : Type 0 where
  pub find_child : Determines FindChild.Post
      (λ _ (body, (from, (n, (name, _)))). body.records.now & body.text.now & from & n & name.now)
      λ _ r _. r
  pub is_table : Determines IsTable.Post (λ _ (b, _). b.now) λ _ r _. r

pub determined : Determined
determined =
    record {
      find_child = λ _ _ _ _ _ _ _ _ g e f. cc;
      is_table = λ _ _ _ _ _ _ _ _ g e f. cc;
    }
