-- Nodes that come in the order of kids with distinct ids are some of them, each once.
use Rattle.std.proofs.Common.{◌≡◌, ◌↔◌, ℕ, Bool, true, false, not, ◌||◌, ◌==◌, List, [], ◌∷◌, ◌++◌, length, map, refl, sym, ap, ◌∙◌, subst, inl, inr, arith, IsTrue}
use Rattle.std.proofs.lemmas.Bool.{and_parts, and_from, not_from_false, not-true, both_ways, ne_eqb}
use Rattle.bd_base.specs.Facts.{has}
use Rattle.bd_tree.specs.declared.node.Node.{Node}
use Rattle.bd_tree.specs.Tree.{id_of}
use Rattle.bd_tree.specs.WellFormed.{are_distinct}
use Rattle.bd_merge.specs.Stands.{IsAmong, AreAmong, AreKids}
use Rattle.bd_merge.specs.Walked.{ComeInOrder}

among_at : (before later : List Node) (node : Node) → IsAmong (before ++ node ∷ later) node
among_at [] later node = inl refl
among_at (k ∷ before) later node = inr (among_at before later node)

among_later : (before later : List Node) (node n : Node) → IsAmong later n → IsAmong (before ++ node ∷ later) n
among_later [] later node n a = inr a
among_later (k ∷ before) later node n a = inr (among_later before later node n a)

all_later : (before later : List Node) (node : Node) (ns : List Node) → AreAmong later ns → AreAmong (before ++ node ∷ later) ns
all_later before later node [] a = tt
all_later before later node (n ∷ ns) a = (among_later before later node n a.0, all_later before later node ns a.1)

among_in_order : (kids ns : List Node) → ComeInOrder kids ns → AreAmong kids ns
among_in_order kids [] o = tt
among_in_order kids (n ∷ ns) o =
    let b = o.1 in
    subst (λ z. AreAmong z (n ∷ ns)) (sym b.parts) (among_at b.before o.0 n, all_later b.before o.0 n ns (among_in_order o.0 ns o.2))

-- the ids behind a node are distinct, and none is the node's
behind_distinct : (before later : List Node) (node : Node) → are_distinct (map id_of (before ++ node ∷ later)) ≡ true → (has (map id_of later) (id_of node) ≡ false) × (are_distinct (map id_of later) ≡ true)
behind_distinct [] later node d = let parts = and_parts (not (has (map id_of later) (id_of node))) (are_distinct (map id_of later)) d in (not-true _ parts.0, parts.1)
behind_distinct (k ∷ before) later node d = behind_distinct before later node (and_parts (not (has (map id_of (before ++ node ∷ later)) (id_of k))) (are_distinct (map id_of (before ++ node ∷ later))) d).1

off_later : (before later : List Node) (node : Node) (q : ℕ) → has (map id_of (before ++ node ∷ later)) q ≡ false → (id_of node == q ≡ false) × (has (map id_of later) q ≡ false)
off_later [] later node q off = off_both (id_of node == q) (has (map id_of later) q) off
  where
    off_both : (a b : Bool) → (a || b) ≡ false → (a ≡ false) × (b ≡ false)
    off_both true b e = absurd (cc)
    off_both false b e = (refl, e)
off_later (k ∷ before) later node q off = off_later before later node q (later_off (id_of k == q) _ off)
  where
    later_off : (a b : Bool) → (a || b) ≡ false → b ≡ false
    later_off true b e = absurd (cc)
    later_off false b e = e

off_in_order : (kids ns : List Node) (q : ℕ) → ComeInOrder kids ns → has (map id_of kids) q ≡ false → has (map id_of ns) q ≡ false
off_in_order kids [] q o off = refl
off_in_order kids (n ∷ ns) q o off =
    let b = o.1 in
    let apart = off_later b.before o.0 n q (ap (λ (z : List Node). has (map id_of z) q) (sym b.parts) ∙ off) in
    ap (λ z. z || has (map id_of ns) q) apart.0 ∙ off_in_order o.0 ns q o.2 apart.1

distinct_in_order : (kids ns : List Node) → ComeInOrder kids ns → are_distinct (map id_of kids) ≡ true → are_distinct (map id_of ns) ≡ true
distinct_in_order kids [] o d = refl
distinct_in_order kids (n ∷ ns) o d =
    let b = o.1 in
    let later = behind_distinct b.before o.0 n (ap (λ (z : List Node). are_distinct (map id_of z)) (sym b.parts) ∙ d) in
    and_from _ _ (not_from_false _ (off_in_order o.0 ns (id_of n) o.2 later.0)) (distinct_in_order o.0 ns o.2 later.1)

pub kids_in_order : (kids ns : List Node) (empty : Bool) → are_distinct (map id_of kids) ≡ true → ComeInOrder kids ns → empty ≡ (length ns == 0) → IsTrue (not empty) ↔ AreKids kids ns
kids_in_order kids [] empty d o e = (λ t. absurd (both_ways _ (ap not e) t), λ a. absurd (omega (arith, a.some)))
kids_in_order kids (n ∷ ns) empty d o e = (
  λ t. record { some = omega arith; once = distinct_in_order kids (n ∷ ns) o d; equal = among_in_order kids (n ∷ ns) o },
  λ a. ap not (e ∙ ne_eqb (length (n ∷ ns)) 0 (λ z. absurd (omega (arith, z)))),
)
