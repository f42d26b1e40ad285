-- A window stands where its block is found and it carries kids of it.
use Rattle.std.proofs.Common.{◌≡◌, ℕ, Bool, List, map, Some, sym, ap, ◌∙◌, subst}
use Rattle.std.specs.List.{enumerate_from}
use Rattle.bd_tree.specs.declared.node.Node.{Node, Block}
use Rattle.bd_tree.specs.Convex.{are_convex}
use Rattle.bd_tree.specs.Tree.{id_of, find_in}
use Rattle.bd_tree.proofs.NodeLemmas.{id_of-Block}
use Rattle.bd_tree.proofs.TreeLemmas.{found_by_id}
use Rattle.bd_merge.specs.Stands.{AreKids, IsThere}
use Rattle.bd_merge.specs.declared.window.Window.{Window}

module _ (root : Node) (window : Window) (own : ℕ) (kids : List Node) (order : List (ℕ × ℕ)) (found : find_in window.block root ≡ Some (Block own kids order)) where
  own_is : own ≡ window.block
  own_is = sym (id_of-Block own kids order) ∙ found_by_id window.block root (Block own kids order) found

  pub is_there : AreKids kids window.kids → IsThere root window
  is_there carried = record {
    kids = kids;
    order = order;
    found = found ∙ ap (λ z. Some (Block z kids order)) own_is;
    carried = carried;
  }

  pub judged : (ks carried : List Node) (ids : List ℕ) (b : Bool) → ks ≡ kids → carried ≡ window.kids → AreKids ks carried → ids ≡ map id_of carried → are_convex order ids (enumerate_from 0 ks) ≡ b →
      (there : IsThere root window) × (are_convex there.order (map id_of window.kids) (enumerate_from 0 there.kids) ≡ b)
  unfolding is_there
  judged ks carried ids b same taken are named convex = (
    is_there (subst (λ z. AreKids z window.kids) same (subst (AreKids ks) taken are)),
    ap (λ z. are_convex order z (enumerate_from 0 kids)) (ap (map id_of) (sym taken) ∙ sym named) ∙ ap (λ z. are_convex order ids (enumerate_from 0 z)) (sym same) ∙ convex,
  )
