-- Kids that run in turn: one pass tells the block's effects and its first fault.
use Rattle.std.proofs.Common.{◌≡◌, ℕ, ◌+◌, Bool, true, false, not, ◌&&◌, ◌||◌, List, [], ◌∷◌, ◌++◌, map, filter, length, length-append, append_assoc, refl, sym, ap, ◌∙◌, subst}
use Rattle.std.specs.List.{list_any, find, enumerate_from}
use Rattle.std.specs.Option.{option_or}
use Rattle.std.proofs.lemmas.Bool.{and_parts}
use Rattle.bd_base.specs.Facts.{IsRising, has, minus, plus}
use Rattle.bd_base.specs.Pairs.{total_order}
use Rattle.bd_base.proofs.FactLemmas.{has-plus, has-minus, rising-plus, rising-minus, rising_same}
use Rattle.bd_links.specs.declared.parts.Effects.{Effects}
use Rattle.bd_links.specs.Child.{Child}
use Rattle.bd_links.specs.Effects.{Kid, is_linked, is_needed, is_given, is_deleted, is_safe, all_facts, block_effects}
use Rattle.bd_links.specs.Faults.{first_of, inside, kid_fault, block_fault}
use Rattle.bd_links.specs.InTurn.{no_effects, turn, turns, turns_fault}
use Rattle.bd_links.proofs.Members.{any_some, has-filter, has-all_facts}
use Rattle.bd_links.proofs.SetLemmas.{rising-filter, rising-all_facts}
use Rattle.bd_links.proofs.TotalOrder.{adds_last, none_deletes, given_in_turn, linked_in_turn, safe_in_turn}

-- one turn
pub turn_add : (e k : Effects) (p : ℕ) → has (turn e k).add p ≡ (has k.add p || (not (has k.del p) && has e.add p))
turn_add e k p = has-plus (minus e.add k.del) k.add p ∙ ap (λ b. has k.add p || b) (has-minus e.add k.del p)

pub turn_del : (e k : Effects) (p : ℕ) → has (turn e k).del p ≡ (not (has k.add p) && (has k.del p || has e.del p))
turn_del e k p = has-minus (plus e.del k.del) k.add p ∙ ap (λ b. not (has k.add p) && b) (has-plus e.del k.del p)

pub turn_need : (e k : Effects) (p : ℕ) → has (turn e k).need p ≡ ((not (has e.add p) && has k.need p) || has e.need p)
turn_need e k p = has-plus e.need (filter (λ p. not (has e.add p)) k.need) p ∙ ap (λ b. b || has e.need p) (has-filter (λ p. not (has e.add p)) k.need p)

-- all turns
pub turns_add : (cs : List Child) (e : Effects) (p : ℕ) → has (turns e cs).add p ≡ (adds_last cs p || (none_deletes cs p && has e.add p))
turns_add [] e p = refl
turns_add (c ∷ cs) e p =
    turns_add cs (turn e c.effects) p ∙ ap (λ b. adds_last cs p || (none_deletes cs p && b)) (turn_add e c.effects p)
    ∙ mixed (adds_last cs p) (none_deletes cs p) (has c.effects.add p) (has c.effects.del p) (has e.add p)
  where
    mixed : (l n a d e : Bool) → (l || (n && (a || (not d && e)))) ≡ ((l || (a && n)) || ((not d && n) && e))
    mixed true n a d e = refl
    mixed false true true d e = refl
    mixed false true false true e = refl
    mixed false true false false e = refl
    mixed false false true true e = refl
    mixed false false true false e = refl
    mixed false false false true e = refl
    mixed false false false false e = refl

pub turns_del : (cs : List Child) (e : Effects) (p : ℕ) → has (turns e cs).del p ≡ (not (adds_last cs p) && (not (none_deletes cs p) || has e.del p))
turns_del [] e p = refl
turns_del (c ∷ cs) e p =
    turns_del cs (turn e c.effects) p ∙ ap (λ b. not (adds_last cs p) && (not (none_deletes cs p) || b)) (turn_del e c.effects p)
    ∙ mixed (adds_last cs p) (none_deletes cs p) (has c.effects.add p) (has c.effects.del p) (has e.del p)
  where
    mixed : (l n a d e : Bool) → (not l && (not n || (not a && (d || e)))) ≡ (not (l || (a && n)) && (not (not d && n) || e))
    mixed true n a d e = refl
    mixed false true true true e = refl
    mixed false true true false e = refl
    mixed false true false true e = refl
    mixed false true false false e = refl
    mixed false false true true e = refl
    mixed false false true false e = refl
    mixed false false false true e = refl
    mixed false false false false e = refl

pub turns_need_more : (cs : List Child) (e : Effects) (p : ℕ) → has e.need p ≡ true → has (turns e cs).need p ≡ true
turns_need_more [] e p h = h
turns_need_more (c ∷ cs) e p h = turns_need_more cs (turn e c.effects) p (turn_need e c.effects p ∙ Rattle.std.proofs.lemmas.Bool.or_right _ _ h)

-- one kid more
none_more : (xs : List Child) (c : Child) (p : ℕ) → none_deletes (xs ++ c ∷ []) p ≡ (none_deletes xs p && not (has c.effects.del p))
none_more [] c p = mixed (has c.effects.del p)
  where
    mixed : (d : Bool) → (not d && true) ≡ (true && not d)
    mixed true = refl
    mixed false = refl
none_more (x ∷ xs) c p = ap (λ b. not (has x.effects.del p) && b) (none_more xs c p) ∙ mixed (has x.effects.del p) (none_deletes xs p) (has c.effects.del p)
  where
    mixed : (x n d : Bool) → (not x && (n && not d)) ≡ ((not x && n) && not d)
    mixed true n d = refl
    mixed false n d = refl

adds_more : (xs : List Child) (c : Child) (p : ℕ) → adds_last (xs ++ c ∷ []) p ≡ (has c.effects.add p || (not (has c.effects.del p) && adds_last xs p))
adds_more [] c p = mixed (has c.effects.add p) (has c.effects.del p)
  where
    mixed : (a d : Bool) → (false || (a && true)) ≡ (a || (not d && false))
    mixed true d = refl
    mixed false true = refl
    mixed false false = refl
adds_more (x ∷ xs) c p =
    ap (λ b. b || (has x.effects.add p && none_deletes (xs ++ c ∷ []) p)) (adds_more xs c p)
    ∙ ap (λ b. (has c.effects.add p || (not (has c.effects.del p) && adds_last xs p)) || (has x.effects.add p && b)) (none_more xs c p)
    ∙ mixed (has c.effects.add p) (has c.effects.del p) (adds_last xs p) (has x.effects.add p) (none_deletes xs p)
  where
    mixed : (a d l x n : Bool) → ((a || (not d && l)) || (x && (n && not d))) ≡ (a || (not d && (l || (x && n))))
    mixed true d l x n = refl
    mixed false true l true true = refl
    mixed false true l true false = refl
    mixed false true l false n = refl
    mixed false false true x n = refl
    mixed false false false true true = refl
    mixed false false false true false = refl
    mixed false false false false n = refl

covered : (t b : Bool) → (t ≡ true → b ≡ true) → (t && b) ≡ t
covered true b h = h refl
covered false b h = refl

any_deletes : (m : ℕ) (cs : List Child) (p : ℕ) → list_any (λ (d : Kid). has d.1.effects.del p) (enumerate_from m cs) ≡ not (none_deletes cs p)
any_deletes m [] p = refl
any_deletes m (c ∷ cs) p = ap (λ b. has c.effects.del p || b) (any_deletes (m + 1) cs p) ∙ mixed (has c.effects.del p) (none_deletes cs p)
  where
    mixed : (d n : Bool) → (d || not n) ≡ not (not d && n)
    mixed true n = refl
    mixed false n = refl

find_same : (t u : ℕ → Bool) (xs : List ℕ) → ((q : ℕ) → t q ≡ u q) → find t xs ≡ find u xs
find_same t u [] h = refl
find_same t u (x ∷ xs) h = rw (h x, find_same t u xs h) refl

module _ (all : List Child) where
  abbrev order : List (ℕ × ℕ)
  order = total_order (length all)

  abbrev kids : List Kid
  kids = enumerate_from 0 all

  abbrev wants : ℕ → Kid → Bool
  wants p j = has j.1.effects.need p && not (is_linked order kids j.0 p)

  -- the pass has come past these kids
  record Past (xs : List Child) (e : Effects) : Type 0 where
    adds : (q : ℕ) → has e.add q ≡ adds_last xs q
    dels : (q : ℕ) → has e.del q ≡ not (adds_last xs q || none_deletes xs q)

  past_more : (xs : List Child) (c : Child) (e : Effects) → Past xs e → Past (xs ++ c ∷ []) (turn e c.effects)
  past_more xs c e h = record {
    adds = λ q. turn_add e c.effects q ∙ ap (λ b. has c.effects.add q || (not (has c.effects.del q) && b)) (h.adds q) ∙ sym (adds_more xs c q);
    dels = λ q. turn_del e c.effects q ∙ ap (λ b. not (has c.effects.add q) && (has c.effects.del q || b)) (h.dels q)
        ∙ mixed (has c.effects.add q) (has c.effects.del q) (adds_last xs q) (none_deletes xs q)
        ∙ ap (λ b. not (b || (none_deletes xs q && not (has c.effects.del q)))) (sym (adds_more xs c q)) ∙ ap (λ b. not (adds_last (xs ++ c ∷ []) q || b)) (sym (none_more xs c q));
  }
    where
      mixed : (a d l n : Bool) → (not a && (d || not (l || n))) ≡ not ((a || (not d && l)) || (n && not d))
      mixed true d l n = refl
      mixed false true l true = refl
      mixed false true l false = refl
      mixed false false true n = refl
      mixed false false false true = refl
      mixed false false false false = refl

  longer : (xs cs : List Child) (c : Child) → all ≡ xs ++ c ∷ cs → all ≡ (xs ++ c ∷ []) ++ cs
  longer xs cs c is = is ∙ sym (append_assoc xs (c ∷ []) cs)

  one_more : (xs : List Child) (c : Child) → length (xs ++ c ∷ []) ≡ length xs + 1
  one_more xs c = length-append xs (c ∷ [])

  linked_past : (xs cs : List Child) (c : Child) (p : ℕ) → all ≡ xs ++ c ∷ cs → is_linked order kids (length xs) p ≡ adds_last xs p
  linked_past xs cs c p is = subst (λ z. is_linked (total_order (length z)) (enumerate_from 0 z) (length xs) p ≡ adds_last xs p) (sym is) (linked_in_turn xs cs c p)

  safe_past : (xs cs : List Child) (c : Child) (p : ℕ) → all ≡ xs ++ c ∷ cs → is_safe order kids (length xs, c) p ≡ (adds_last xs p || none_deletes xs p)
  safe_past xs cs c p is = subst (λ z. is_safe (total_order (length z)) (enumerate_from 0 z) (length xs, c) p ≡ (adds_last xs p || none_deletes xs p)) (sym is) (safe_in_turn xs cs c p)

  turns_need : (xs cs : List Child) (e : Effects) (p : ℕ) → all ≡ xs ++ cs → Past xs e → has (turns e cs).need p ≡ (has e.need p || list_any (wants p) (enumerate_from (length xs) cs))
  turns_need xs [] e p is h = mixed (has e.need p)
    where
      mixed : (b : Bool) → b ≡ (b || false)
      mixed true = refl
      mixed false = refl
  turns_need xs (c ∷ cs) e p is h =
      let rest = list_any (wants p) (enumerate_from (length xs + 1) cs) in
      turns_need (xs ++ c ∷ []) cs (turn e c.effects) p (longer xs cs c is) (past_more xs c e h)
      ∙ ap (λ n. has (turn e c.effects).need p || list_any (wants p) (enumerate_from n cs)) (one_more xs c)
      ∙ ap (λ b. b || rest) (turn_need e c.effects p)
      ∙ ap (λ b. ((not b && has c.effects.need p) || has e.need p) || rest) (h.adds p ∙ sym (linked_past xs cs c p is))
      ∙ mixed (is_linked order kids (length xs) p) (has c.effects.need p) (has e.need p) rest
    where
      mixed : (l n e r : Bool) → (((not l && n) || e) || r) ≡ (e || ((n && not l) || r))
      mixed true true true r = refl
      mixed true true false r = refl
      mixed true false true r = refl
      mixed true false false r = refl
      mixed false true true r = refl
      mixed false true false r = refl
      mixed false false true r = refl
      mixed false false false r = refl

  fault_past : (block : ℕ) (xs cs : List Child) (e : Effects) → all ≡ xs ++ cs → Past xs e → turns_fault block e cs ≡ first_of (map (kid_fault block order kids) (enumerate_from (length xs) cs))
  fault_past block xs [] e is h = refl
  fault_past block xs (c ∷ cs) e is h =
      ap (λ f. option_or (inside block c.id f) (turns_fault block (turn e c.effects) cs)) (find_same (has e.del) (λ p. not (is_safe order kids (length xs, c) p)) c.effects.need (λ q. h.dels q ∙ ap not (sym (safe_past xs cs c q is))))
      ∙ ap (λ f. option_or (kid_fault block order kids (length xs, c)) f) (fault_past block (xs ++ c ∷ []) cs (turn e c.effects) (longer xs cs c is) (past_more xs c e h)
      ∙ ap (λ n. first_of (map (kid_fault block order kids) (enumerate_from n cs))) (one_more xs c))

  past_none : Past [] no_effects
  past_none = record { adds = λ q. refl; dels = λ q. refl }

  pub block_fault_in_turn : (block : ℕ) → block_fault block order kids ≡ turns_fault block no_effects all
  block_fault_in_turn block = sym (fault_past block [] all no_effects refl past_none)

  rising_turns : (cs : List Child) (e : Effects) → IsRising e.need × IsRising e.add × IsRising e.del → IsRising (turns e cs).need × IsRising (turns e cs).add × IsRising (turns e cs).del
  rising_turns [] e h = h
  rising_turns (c ∷ cs) e h = rising_turns cs (turn e c.effects)
      (rising-plus _ (filter (λ p. not (has e.add p)) c.effects.need) h.0, rising-plus _ c.effects.add (rising-minus _ c.effects.del h.1), rising-minus _ c.effects.add (rising-plus _ c.effects.del h.2))

  rising_all : IsRising (turns no_effects all).need × IsRising (turns no_effects all).add × IsRising (turns no_effects all).del
  rising_all = rising_turns all no_effects (tt, tt, tt)

  same_need : filter (is_needed order kids) (all_facts (λ (e : Effects). e.need) kids) ≡ (turns no_effects all).need
  same_need = rising_same _ _ (rising-filter (is_needed order kids) _ (rising-all_facts (λ (e : Effects). e.need) kids)) rising_all.0 (λ p.
      has-filter (is_needed order kids) (all_facts (λ (e : Effects). e.need) kids) p
      ∙ covered _ _ (λ t. let j = any_some (wants p) kids t in has-all_facts (λ (e : Effects). e.need) j.0 kids p j.1 (and_parts (has j.0.1.effects.need p) _ j.2).0)
      ∙ sym (turns_need [] all no_effects p refl past_none))

  same_add : filter (is_given order kids) (all_facts (λ (e : Effects). e.add) kids) ≡ (turns no_effects all).add
  same_add = rising_same _ _ (rising-filter (is_given order kids) _ (rising-all_facts (λ (e : Effects). e.add) kids)) rising_all.1 (λ p.
      has-filter (is_given order kids) (all_facts (λ (e : Effects). e.add) kids) p
      ∙ covered _ _ (λ t. let i = any_some (Rattle.bd_links.specs.Effects.gives order kids p) kids t in has-all_facts (λ (e : Effects). e.add) i.0 kids p i.1 (and_parts (has i.0.1.effects.add p) _ i.2).0)
      ∙ given_in_turn all p ∙ sym (turns_add all no_effects p ∙ mixed (adds_last all p) (none_deletes all p)))
    where
      mixed : (l n : Bool) → (l || (n && false)) ≡ l
      mixed true n = refl
      mixed false true = refl
      mixed false false = refl

  same_del : filter (is_deleted order kids) (all_facts (λ (e : Effects). e.del) kids) ≡ (turns no_effects all).del
  same_del = rising_same _ _ (rising-filter (is_deleted order kids) _ (rising-all_facts (λ (e : Effects). e.del) kids)) rising_all.2 (λ p.
      has-filter (is_deleted order kids) (all_facts (λ (e : Effects). e.del) kids) p
      ∙ covered _ _ (λ t. let d = any_some (λ (d : Kid). has d.1.effects.del p) kids (and_parts (list_any (λ (d : Kid). has d.1.effects.del p) kids) _ t).0 in has-all_facts (λ (e : Effects). e.del) d.0 kids p d.1 d.2)
      ∙ ap (λ b. b && not (is_given order kids p)) (any_deletes 0 all p) ∙ ap (λ b. not (none_deletes all p) && not b) (given_in_turn all p)
      ∙ sym (turns_del all no_effects p ∙ mixed (adds_last all p) (none_deletes all p)))
    where
      mixed : (l n : Bool) → (not l && (not n || false)) ≡ (not n && not l)
      mixed true true = refl
      mixed true false = refl
      mixed false true = refl
      mixed false false = refl

  pub block_effects_in_turn : block_effects order kids ≡ turns no_effects all
  block_effects_in_turn =
      ap (λ z. record { need = z; add = filter (is_given order kids) (all_facts (λ e. e.add) kids); del = filter (is_deleted order kids) (all_facts (λ e. e.del) kids) }) same_need
      ∙ ap (λ z. record { need = (turns no_effects all).need; add = z; del = filter (is_deleted order kids) (all_facts (λ e. e.del) kids) }) same_add
      ∙ ap (λ z. record { need = (turns no_effects all).need; add = (turns no_effects all).add; del = z }) same_del
