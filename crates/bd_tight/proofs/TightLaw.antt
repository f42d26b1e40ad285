-- In a sound, tight tree each pair with nothing between, whose kids both have steps, has a reason.
use Rattle.std.proofs.Common.{◌≡◌, ◌≢◌, ℕ, ◌+◌, ◌*◌, ◌<◌, ◌≤◌, true, false, not, ◌&&◌, ◌||◌, eqb, List, [], ◌∷◌, map, filter, length, Option, Some, slice_get, slice_index, refl, sym, ap, ◌∙◌, subst, inl, inr, zero, suc, arith}
use Rattle.std.specs.List.{list_all, enumerate_from}
use Rattle.std.specs.Option.{option_map_or}
use Rattle.std.proofs.lemmas.Bool.{and_parts, and_from, both_ways, eqb-true, eq-eqb, ne_eqb, or_cases, or_left, or_right, false_from_ne_true, le-ltb}
use Rattle.bd_base.specs.Facts.{has}
use Rattle.bd_base.specs.Pairs.{is_before}
use Rattle.bd_task.specs.TaskView.{TaskView}
use Rattle.bd_tree.specs.declared.node.Node.{Node, Block}
use Rattle.bd_tree.specs.declared.node.Node.TheOpen.{Node-F}
use Rattle.bd_tree.specs.declared.node.Node.TheViews.{out-Node, outs-Block}
use Rattle.bd_tree.specs.Convex.{is_member, is_after_some, is_before_some, is_aside, convex_in_layer, is_convex_in}
use Rattle.bd_tree.specs.Misfit.{leads_to}
use Rattle.bd_tree.specs.Order.{is_order, is_rising, is_within}
use Rattle.bd_tree.specs.Tree.{id_of, find_in, steps_of, pairs_of, products, depth_of}
use Rattle.bd_tree.specs.WellFormed.{IsWellFormed, has_orders}
use Rattle.bd_tree.proofs.NodeLemmas.{has_orders-Block, pairs_of-Block, steps_of-Block}
use Rattle.bd_links.proofs.Members.{In, here, any_some, some_any, all_from}
use Rattle.bd_links.specs.Sound.{IsSound, effects_of}
use Rattle.bd_shape.specs.Hull.{is_between, between_in_layer, has_between, between_at}
use Rattle.bd_shape.specs.Kids.{kids_at, convex_at}
use Rattle.bd_shape.specs.Unordered.{CanUnorder, stands_at, unordered_pairs, unordered}
use Rattle.bd_shape.proofs.KidLemmas.{IsThere, kids_found}
use Rattle.bd_shape.proofs.UnorderLemmas.{unordered_depth}
use Rattle.bd_tight.specs.Candidates.{Level, levels_of, covers, related, sides_of, with_each, fits, pair_candidates, level_candidates, candidates, Qualifies, IsTight}
use Rattle.bd_tight.specs.declared.gain.Gain.{Gain}
use Rattle.bd_reason.specs.Reasons.{reasons_of, reasons_at}
use Rattle.bd_tight.proofs.CandidateLemmas.{in_flat, in_filter, all_rec, level_listed}
use Rattle.bd_tight.proofs.KidLemmas.{IsKid, in_numbered}
use Rattle.bd_tight.proofs.ListLemmas.{map_in, filter_on}
use Rattle.bd_tight.proofs.NoReason.{there as block_there, first_kid, second_kid, reasons_are, harmless}
use Rattle.bd_tight.proofs.PairCount.{products_without, pairs_above}
use Rattle.bd_tight.proofs.PairExact.{orders_below, strict, joins, shared}
use Rattle.bd_tight.proofs.PathLemmas.{SharesWay}

has_at : (kids : List Node) (q : ℕ) (n : Node) → slice_get kids q ≡ Some n → has (map id_of kids) (id_of n) ≡ true
has_at [] q n e = absurd (cc)
has_at (k ∷ ks) zero n e = let same : k ≡ n = cc in or_left _ _ (eq-eqb (id_of k) (id_of n) (ap id_of same))
has_at (k ∷ ks) (suc q) n e = or_right _ _ (has_at ks q n e)

steps_at : (kids : List Node) (q : ℕ) (n : Node) → slice_get kids q ≡ Some n → slice_index (map steps_of kids) q ≡ steps_of n
steps_at [] q n e = absurd (cc)
steps_at (k ∷ ks) zero n e = let same : k ≡ n = cc in ap steps_of same
steps_at (k ∷ ks) (suc q) n e = steps_at ks q n e

pub pair_in : (order : List (ℕ × ℕ)) (a b : ℕ) → is_before order a b ≡ true → In (a, b) order
pair_in order a b e =
    let r = any_some (λ (q : ℕ × ℕ). eqb q.0 a && eqb q.1 b) order e in
    let p = and_parts (eqb r.0.0 a) (eqb r.0.1 b) r.2 in
    let same : r.0 ≡ (a, b) = ap (λ z. (z, r.0.1)) (eqb-true r.0.0 a p.0) ∙ ap (λ z. (a, z)) (eqb-true r.0.1 b p.1) in
    subst (λ z. In z order) same r.1

only_one : (x y : ℕ) → (eqb x y || false) ≡ true → y ≡ x
only_one x y e = elim (or_cases (eqb x y) false e) [ inl h ↦ sym (eqb-true x y h) | inr h ↦ absurd (both_ways false refl h) ]

module _ (task : TaskView) (root : Node) (block : ℕ) (kids : List Node) (order : List (ℕ × ℕ)) (well : IsWellFormed root) (found : find_in block root ≡ Some (Block block kids order))
    (a b : ℕ) (na nb : Node) (at_a : slice_get kids a ≡ Some na) (at_b : slice_get kids b ≡ Some nb) (ordered : is_before order a b ≡ true) (free : leads_to order (a, b) ≡ false) where
  abbrev i : ℕ
  i = id_of na

  abbrev j : ℕ
  j = id_of nb

  first : has (kids_at block root) i ≡ true
  first = ap (λ z. has z i) (kids_found block root block kids order found) ∙ has_at kids a na at_a

  second : has (kids_at block root) j ≡ true
  second = ap (λ z. has z j) (kids_found block root block kids order found) ∙ has_at kids b nb at_b

  abbrev found_there : IsThere block root
  found_there = block_there task.actions root block i j well first second

  layers : Node-F.Block block kids order ≡ Node-F.Block block found_there.kids found_there.order
  layers =
      let is : Some (Block block kids order) ≡ Some (Block block found_there.kids found_there.order) = sym found ∙ found_there.found in
      let node : Block block kids order ≡ Block block found_there.kids found_there.order = cc in
      sym (outs-Block block kids order) ∙ ap out-Node node ∙ outs-Block block found_there.kids found_there.order

  kids_are : found_there.kids ≡ kids
  kids_are = let e = layers in (let z : kids ≡ found_there.kids = cc in sym z)

  order_is : found_there.order ≡ order
  order_is = let e = layers in (let z : order ≡ found_there.order = cc in sym z)

  abbrev one : IsKid i found_there.kids
  one = first_kid task.actions root block i j well first second

  abbrev two : IsKid j found_there.kids
  two = second_kid task.actions root block i j well first second

  stands_one : (q : ℕ) (n : Node) → slice_get kids q ≡ Some n → i ≡ id_of n → q ≡ one.at
  stands_one q n e same = eqb-true q one.at (sym (one.alone q) ∙ ap (λ (ks : List Node). stands_at ks i q) kids_are ∙ ap (λ (o : Option Node). option_map_or (λ (kid : Node). eqb (id_of kid) i) o false) e ∙ eq-eqb (id_of n) i (sym same))

  stands_two : (q : ℕ) (n : Node) → slice_get kids q ≡ Some n → j ≡ id_of n → q ≡ two.at
  stands_two q n e same = eqb-true q two.at (sym (two.alone q) ∙ ap (λ (ks : List Node). stands_at ks j q) kids_are ∙ ap (λ (o : Option Node). option_map_or (λ (kid : Node). eqb (id_of kid) j) o false) e ∙ eq-eqb (id_of n) j (sym same))

  one_at : a ≡ one.at
  one_at = stands_one a na at_a refl

  two_at : b ≡ two.at
  two_at = stands_two b nb at_b refl

  one_node : one.node ≡ na
  one_node =
      let e : Some one.node ≡ Some na = sym one.stands ∙ ap (λ (ks : List Node). slice_get ks one.at) kids_are ∙ ap (slice_get kids) (sym one_at) ∙ at_a in
      cc

  two_node : two.node ≡ nb
  two_node =
      let e : Some two.node ≡ Some nb = sym two.stands ∙ ap (λ (ks : List Node). slice_get ks two.at) kids_are ∙ ap (slice_get kids) (sym two_at) ∙ at_b in
      cc

  abbrev way : SharesWay (Block block found_there.kids found_there.order) (Block block found_there.kids (unordered_pairs i j found_there.kids found_there.order)) root (unordered root block i j)
  way = shared task root block i j well first second

  is : is_order (length (map has_orders found_there.kids)) found_there.order ≡ true
  is = (and_parts (list_all (λ k. k) (map has_orders found_there.kids)) _ (sym (has_orders-Block block found_there.kids found_there.order) ∙ orders_below way.way (Block block found_there.kids found_there.order) (ap has_orders (sym way.old_is) ∙ well.orders))).1

  is_here : is_order (length (map has_orders found_there.kids)) order ≡ true
  is_here = ap (is_order (length (map has_orders found_there.kids))) (sym order_is) ∙ is

  no_loop : (x : ℕ) → is_before order x x ≡ true → ⊥
  no_loop x e = both_ways _ (strict (length (map has_orders found_there.kids)) order is_here x) e

  apart : i ≢ j
  apart e =
      let same : a ≡ b = one_at ∙ sym (stands_one b nb at_b e) in
      no_loop b (ap (λ z. is_before order z b) (sym same) ∙ ordered)

  -- a kid with one of the ids stands at its place
  member_one : (m : ℕ × Node) → In m (enumerate_from 0 kids) → is_member (i ∷ []) m ≡ true → m.0 ≡ a
  member_one m n e =
      let r = in_numbered 0 kids m n in
      let at : m.0 ≡ r.0 = omega (arith, r.1) in
      at ∙ stands_one r.0 m.1 r.2 (sym (only_one i (id_of m.1) e)) ∙ sym one_at

  member_two : (m : ℕ × Node) → In m (enumerate_from 0 kids) → is_member (j ∷ []) m ≡ true → m.0 ≡ b
  member_two m n e =
      let r = in_numbered 0 kids m n in
      let at : m.0 ≡ r.0 = omega (arith, r.1) in
      at ∙ stands_two r.0 m.1 r.2 (sym (only_one j (id_of m.1) e)) ∙ sym two_at

  after_one : (k : ℕ) → is_after_some order (i ∷ []) (enumerate_from 0 kids) k ≡ true → is_before order a k ≡ true
  after_one k e =
      let r = any_some (λ (m : ℕ × Node). is_member (i ∷ []) m && is_before order m.0 k) (enumerate_from 0 kids) e in
      let p = and_parts (is_member (i ∷ []) r.0) (is_before order r.0.0 k) r.2 in
      ap (λ z. is_before order z k) (sym (member_one r.0 r.1 p.0)) ∙ p.1

  before_two : (k : ℕ) → is_before_some order (j ∷ []) (enumerate_from 0 kids) k ≡ true → is_before order k b ≡ true
  before_two k e =
      let r = any_some (λ (m : ℕ × Node). is_member (j ∷ []) m && is_before order k m.0) (enumerate_from 0 kids) e in
      let p = and_parts (is_member (j ∷ []) r.0) (is_before order k r.0.0) r.2 in
      ap (is_before order k) (sym (member_two r.0 r.1 p.0)) ∙ p.1

  after_two : (k : ℕ) → is_after_some order (j ∷ []) (enumerate_from 0 kids) k ≡ true → is_before order b k ≡ true
  after_two k e =
      let r = any_some (λ (m : ℕ × Node). is_member (j ∷ []) m && is_before order m.0 k) (enumerate_from 0 kids) e in
      let p = and_parts (is_member (j ∷ []) r.0) (is_before order r.0.0 k) r.2 in
      ap (λ z. is_before order z k) (sym (member_two r.0 r.1 p.0)) ∙ p.1

  pub none_between : between_at block i j root ≡ false
  none_between =
      ap (λ (o : Option Node). option_map_or (λ (node : Node). has_between node i j) o false) found
      ∙ ap (between_in_layer i j) (outs-Block block kids order)
      ∙ false_from_ne_true _ (λ e.
      let r = any_some (λ (k : ℕ × Node). is_between order i j (enumerate_from 0 kids) k.0) (enumerate_from 0 kids) e in
      let p = and_parts (is_after_some order (i ∷ []) (enumerate_from 0 kids) r.0.0) (is_before_some order (j ∷ []) (enumerate_from 0 kids) r.0.0) r.2 in
      both_ways _ free (some_any (λ (q : ℕ × ℕ). eqb q.0 a && is_before order q.1 b) (a, r.0.0) order (pair_in order a r.0.0 (after_one r.0.0 p.0)) (and_from _ _ (eq-eqb a a refl) (before_two r.0.0 p.1))))

  convex : convex_at block (j ∷ []) root ≡ true
  convex =
      ap (λ (o : Option Node). option_map_or (λ (node : Node). is_convex_in node (j ∷ [])) o true) found
      ∙ ap (convex_in_layer (j ∷ [])) (outs-Block block kids order)
      ∙ all_from (is_aside order (j ∷ []) (enumerate_from 0 kids)) (enumerate_from 0 kids) (λ k n.
      or_right _ _ (ap not (false_from_ne_true _ (λ e.
      let p = and_parts (is_after_some order (j ∷ []) (enumerate_from 0 kids) k.0) (is_before_some order (j ∷ []) (enumerate_from 0 kids) k.0) e in
      no_loop b (joins (length (map has_orders found_there.kids)) order is_here b k.0 b (after_two k.0 p.0) (before_two k.0 p.1))))))

  abbrev pub alone : Gain
  alone = record { block = block; left = i ∷ []; right = j ∷ [] }

  abbrev level : Level
  level = record { own = block; kids = kids; order = order }

  -- the two single kids are a candidate
  pub alone_listed : (span : ℕ) → 1 ≤ span → In alone (candidates task.actions root span)
  alone_listed span le =
      let others = related task.actions kids na nb in
      let rights = sides_of (Block block kids order) nb others in
      let inner : In alone (map (λ (right : List ℕ). record { block = block; left = i ∷ []; right = right }) rights) = map_in (λ (right : List ℕ). record { block = block; left = i ∷ []; right = right }) (j ∷ []) rights here in
      let each : In alone (with_each block (sides_of (Block block kids order) na others) rights) =
      in_flat alone (map (λ (right : List ℕ). record { block = block; left = i ∷ []; right = right }) rights) (map (λ (left : List ℕ). map (λ (right : List ℕ). record { block = block; left = left; right = right }) rights) (sides_of (Block block kids order) na others)) inner here in
      let ok : fits root span alone ≡ true = and_from _ _ (and_from _ _ (and_from _ _ (and_from _ _
      (and_from _ _ (ap not (ap (λ z. z || false) (ne_eqb j i (λ e. apart (sym e))))) refl) (ap not (le-ltb span 1 le))) (ap not (le-ltb span 1 le))) convex) (ap not none_between) in
      let kept : In alone (pair_candidates task.actions root span level (Some na) (Some nb)) = in_filter (fits root span) alone (with_each block (sides_of (Block block kids order) na others) rights) each ok in
      let pair : In alone (pair_candidates task.actions root span level (slice_get kids a) (slice_get kids b)) =
      subst (λ (o : Option Node). In alone (pair_candidates task.actions root span level o (slice_get kids b))) (sym at_a) (subst (λ (o : Option Node). In alone (pair_candidates task.actions root span level (Some na) o)) (sym at_b) kept) in
      let cover : In (a, b) (covers order) = in_filter (λ p. not (leads_to order p)) (a, b) order (pair_in order a b ordered) (ap not free) in
      let in_level : In alone (level_candidates task.actions root span level) =
      in_flat alone (pair_candidates task.actions root span level (slice_get kids a) (slice_get kids b)) (map (λ (p : ℕ × ℕ). pair_candidates task.actions root span level (slice_get kids p.0) (slice_get kids p.1)) (covers order)) pair
      (map_in (λ (p : ℕ × ℕ). pair_candidates task.actions root span level (slice_get kids p.0) (slice_get kids p.1)) (a, b) (covers order) cover) in
      in_flat alone (level_candidates task.actions root span level) (map (level_candidates task.actions root span) (levels_of root)) in_level
      (map_in (level_candidates task.actions root span) level (levels_of root) (level_listed block kids order root found))

  pub can_unorder : CanUnorder root block i j
  can_unorder = record { first = first; second = second; apart = apart; free = none_between }

  -- the ordered step pairs that go
  pub pairs_gone : pairs_of root ≡ pairs_of (unordered root block i j) + steps_of na * steps_of nb
  pairs_gone =
      let old = Block block found_there.kids found_there.order in
      let pairs = unordered_pairs i j found_there.kids found_there.order in
      let new = Block block found_there.kids pairs in
      let counts = map steps_of found_there.kids in
      let same_pairs : pairs ≡ filter (λ p. not (eqb p.0 one.at && eqb p.1 two.at)) found_there.order =
      filter_on (λ p. not (stands_at found_there.kids i p.0 && stands_at found_there.kids j p.1)) (λ p. not (eqb p.0 one.at && eqb p.1 two.at)) found_there.order
      (λ p. ap (λ z. not (z && stands_at found_there.kids j p.1)) (one.alone p.0) ∙ ap (λ z. not (eqb p.0 one.at && z)) (two.alone p.1)) in
      let rising : is_rising found_there.order ≡ true = (and_parts (list_all (is_within (length (map has_orders found_there.kids))) found_there.order) _ (and_parts _ _ is).0).1 in
      let ordered_there : is_before found_there.order one.at two.at ≡ true = ap (λ z. is_before z one.at two.at) order_is ∙ ap (λ z. is_before order z two.at) (sym one_at) ∙ ap (is_before order a) (sym two_at) ∙ ordered in
      let fewer = products_without one.at two.at counts found_there.order rising ordered_there in
      let same_products : products pairs counts ≡ products (filter (λ p. not (eqb p.0 one.at && eqb p.1 two.at)) found_there.order) counts = ap (λ z. products z counts) same_pairs in
      let m : slice_index counts one.at ≡ steps_of na = steps_at found_there.kids one.at one.node one.stands ∙ ap steps_of one_node in
      let n : slice_index counts two.at ≡ steps_of nb = steps_at found_there.kids two.at two.node two.stands ∙ ap steps_of two_node in
      let product : slice_index counts one.at * slice_index counts two.at ≡ steps_of na * steps_of nb = ap (λ z. z * slice_index counts two.at) m ∙ ap (λ z. steps_of na * z) n in
      let here_fewer : pairs_of old ≡ pairs_of new + steps_of na * steps_of nb = omega (arith, pairs_of-Block block found_there.kids found_there.order, pairs_of-Block block found_there.kids pairs, fewer, same_products, product) in
      let all = pairs_above way.way old new (steps_of na * steps_of nb) (steps_of-Block block found_there.kids pairs ∙ sym (steps_of-Block block found_there.kids found_there.order)) here_fewer in
      ap pairs_of way.old_is ∙ all.1 ∙ ap (λ z. pairs_of z + steps_of na * steps_of nb) (sym way.new_is)

  pub has_reason : IsSound task root → depth_of root ≤ 64 → (span : ℕ) → 1 ≤ span → IsTight task root span → 0 < steps_of na → 0 < steps_of nb → reasons_of (effects_of task.actions na) (effects_of task.actions nb) ≢ []
  has_reason sound shallow span le tight some_a some_b none =
      let reasons : reasons_at task.actions block i j root ≡ [] =
      reasons_are task.actions root block i j well first second ∙ ap (λ n. reasons_of (effects_of task.actions n) (effects_of task.actions two.node)) one_node ∙ ap (λ n. reasons_of (effects_of task.actions na) (effects_of task.actions n)) two_node ∙ none in
      let deep : depth_of (unordered root block i j) ≡ depth_of root = unordered_depth root block i j well can_unorder in
      let some : 0 < steps_of na * steps_of nb = positive (steps_of na) (steps_of nb) some_a some_b in
      all_rec (λ c. Qualifies task root c → ⊥) alone (candidates task.actions root span) tight (alone_listed span le) (record {
        sound = harmless task root block i j well can_unorder sound reasons;
        fewer = omega (arith, pairs_gone, some);
        shallow = omega (arith, deep, shallow);
      })
    where
      positive : (m n : ℕ) → 0 < m → 0 < n → 0 < m * n
      positive zero n x y = absurd (omega arith)
      positive (suc m) zero x y = absurd (omega arith)
      positive (suc m) (suc n) x y = let e : suc m * suc n ≡ suc (n + m * suc n) = omega arith in omega (arith, e)
