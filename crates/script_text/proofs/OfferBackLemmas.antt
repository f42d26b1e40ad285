-- What is read behind the plan is spelled.
use Rattle.std.proofs.Common.{◌≡◌, ℕ, ◌+◌, ◌<◌, ◌≤◌, Bool, true, false, cond, not, nat_eq, ◌==◌, List, [], ◌∷◌, ◌++◌, Option, Some, None, Result, Ok, Err, map, codes, refl, sym, ap, subst, ◌∙◌, arith, append_assoc}
use Rattle.std.proofs.lemmas.Bool.Decides.{nat_tests}
use Rattle.std.proofs.lemmas.List.{append-nil}
use Rattle.std.proofs.lemmas.Slice.Eq.{bytes_eq-Decides}
use Rattle.std.specs.Cmp.Lexicographic.{pointwise}
use Rattle.std.specs.Option.{is_none}
use Rattle.std.specs.Str.{bytes_eq}
use Rattle.bd_base.specs.declared.text_err.Cause.TheVariants as cause
use Rattle.bd_merge.specs.declared.window.Lean.{Lean}
use Rattle.bd_merge.specs.declared.window.Lean.TheVariants as leans
use Rattle.bd_tree.specs.Misfit.{first_misfit}
use Rattle.bd_tree.specs.Tree.{listed_of}
use Rattle.bd_tree.specs.declared.misfit.Misfit.{Misfit}
use Rattle.bd_tree.specs.declared.node.Node.{Node}
use Rattle.plan_core.specs.declared.offer.Offer.{Offer}
use Rattle.plan_core.specs.declared.offer.Offer.TheVariants.{Replace, Tighten, Rebuild}
use Rattle.script_text.specs.Lines.{is_number, number_of}
use Rattle.script_text.specs.Rest.{Rest}
use Rattle.script_text.specs.Reading.{Fault, Left, ◌>>=◌, on_key, after_key, word_at, key_at, end_at, list_at, line_at, stop_number, stop_at, stop_line}
use Rattle.script_text.specs.Nodes.{id_at, pair_at, no_nodes, kids_until, root_at}
use Rattle.script_text.specs.SpellsNodes.{IsId, ArePairs, SpellsNode}
use Rattle.script_text.specs.Whole.{well_formed_at, start_at, start_line, lean_at, replace_at, ids_until, ids_at, tighten_at, pairs_at, rebuild_at, found, offer_at, on_offer, offers_at, tail_at, rest_at}
use Rattle.script_text.specs.Spells.{Replacement, Offered, replacement, tightening, rebuild, start_lines, stop_lines, lean_word, replace_line, offer_line, ArePlaces, IsRoot, IsStart, IsStop, IsReplacement, AreIds, IsTightening, IsRebuild, IsOffer, AreOffers}
use Rattle.script_text.proofs.ReadLemmas.{bind_ok, ok_is, needed_ok, list_back}
use Rattle.script_text.proofs.PartLemmas.{joined, cons2, app2, after_lines, key_back, end_back, word_back, number_back, line_back, no_more_back}
use Rattle.script_text.proofs.NodesBack.{kids_back, root_back, pair_back}
use Rattle.script_text.proofs.OfferLemmas.{line_if}

-- the stop

not_none : (n : ℕ) → (n == 0) ≡ false → 0 < n
not_none n e = grind (arith, nat_tests)

stop_number_back : (place : ℕ) (w : List ℕ) (n : ℕ) → stop_number place w ≡ Ok n → IsStop (Some w) n
stop_number_back place w n e =
    let b = bind_ok (Rattle.script_text.specs.Reading.number_at 1_000_000 place w) _ n e in
    by_test (place, cause.BadNumber w) b.0 (number_back 1_000_000 place w b.0 b.1) (b.0 == 0) refl b.2
  where
    by_test : (A : Fault) (m : ℕ) → (is_number w ≡ true) × (number_of w ≡ m) × (number_of w ≤ 1_000_000) → (t : Bool) → (m == 0) ≡ t → cond t (Err A) (Ok m) ≡ Ok n → IsStop (Some w) n
    by_test A m h true p e = cc
    by_test A m h false p e = (h.0, (let P : ℕ → Type 0 = λ k. 0 < k in subst P (sym h.1) (not_none m p)), h.2, (let q : n ≡ m = cc in q ∙ sym h.1))

stop_back : (place : ℕ) (ws : List (List ℕ)) (n : ℕ) → stop_at place ws ≡ Ok n → (digits : List ℕ) × (ws ≡ digits ∷ []) × IsStop (Some digits) n
stop_back place ws n e =
    let a = bind_ok (word_at place ws) _ n e in
    let b = bind_ok (stop_number place a.0.0) _ n a.2 in
    let c = bind_ok (end_at place a.0.1) _ n b.2 in
    let m : n ≡ b.0 = ok_is _ _ _ refl c.2 in
    (a.0.0, word_back place ws a.0 a.1 ∙ cons2 _ _ _ _ refl (end_back place a.0.1 c.0 c.1), (let P : ℕ → Type 0 = λ k. IsStop (Some a.0.0) k in subst P (sym m) (stop_number_back place a.0.0 b.0 b.1)))

pub record StopBack (ls : List (List (List ℕ))) (x : ℕ × Left) : Type 0 where
  pub digits : Option (List ℕ)
  pub stops : IsStop digits x.0
  pub words : ls ≡ stop_lines digits ++ x.1.1

no_stop : (n : ℕ) (ls : List (List (List ℕ))) (x : ℕ × Left) → x ≡ (1_000_000, (n, ls)) → StopBack ls x
no_stop n ls x h = record { digits = None; stops = ap (λ (y : ℕ × Left). y.0) h; words = ap (λ (y : ℕ × Left). y.1.1) (sym h) }

stop_line_back : (left : Left) (x : ℕ × Left) → stop_line left ≡ Ok x → StopBack left.1 x
stop_line_back left x e = by_lines left.0 left.1 e
  where
    by_key : (n : ℕ) (l : List (List ℕ)) (ls : List (List (List ℕ))) (t : Option (List (List ℕ))) → after_key (codes "stop") l ≡ t → on_key t (Ok (1_000_000, (n, l ∷ ls))) (λ ws. stop_at n ws >>= λ stop. Ok (stop, (n + 1, ls))) ≡ Ok x → StopBack (l ∷ ls) x
    by_key n l ls None p h = no_stop n (l ∷ ls) x (ok_is _ _ _ refl h)
    by_key n l ls (Some ws) p h =
        let b = bind_ok (stop_at n ws) _ x h in
        let y : x ≡ (b.0, (n + 1, ls)) = ok_is _ _ _ refl b.2 in
        let s = stop_back n ws b.0 b.1 in
        record {
          digits = Some s.0;
          stops = (let P : ℕ → Type 0 = λ k. IsStop (Some s.0) k in subst P (ap (λ (z : ℕ × Left). z.0) (sym y)) s.2);
          words = joined _ _ _ _ (key_back (codes "stop") l ws p ∙ cons2 _ _ _ _ refl s.1) (ap (λ (z : ℕ × Left). z.1.1) (sym y));
        }

    by_lines : (n : ℕ) (ls : List (List (List ℕ))) → stop_line (n, ls) ≡ Ok x → StopBack ls x
    by_lines n [] h = no_stop n [] x (ok_is _ _ _ refl h)
    by_lines n (l ∷ ls) h = by_key n l ls (after_key (codes "stop") l) refl h

-- the start tree

well_formed_back : (place : ℕ) (root tree : Node) → well_formed_at place root ≡ Ok tree → (tree ≡ root) × (first_misfit root ≡ None)
well_formed_back place root tree e = by_misfit (place, cause.Misfit) (first_misfit root) refl e
  where
    by_misfit : (A : Fault) (o : Option Misfit) → first_misfit root ≡ o → cond (is_none o) (Ok root) (Err A) ≡ Ok tree → (tree ≡ root) × (first_misfit root ≡ None)
    by_misfit A None p h = (ok_is _ _ _ refl h, p)
    by_misfit A (Some m) p h = cc

start_back : (declared : List (List ℕ)) (plan : List ℕ) (place : ℕ) (ws : List (List ℕ)) (root : Node) → start_at declared plan place ws ≡ Ok root → IsRoot declared plan ws root
unfolding start_at
start_back declared plan place ws root e =
    let a = bind_ok (root_at declared place no_nodes ws) _ root e in
    let b = bind_ok (well_formed_at place a.0) _ root a.2 in
    let w = well_formed_back place a.0 b.0 b.1 in
    let spelled = root_back declared place ws a.0 a.1 in
    by_list a.0 b.0 w spelled (place, cause.Misfit) (pointwise nat_eq (listed_of b.0) plan) refl b.2
  where
    by_list : (r t : Node) → (t ≡ r) × (first_misfit r ≡ None) → SpellsNode declared 64 ws r → (A : Fault) (same : Bool) → pointwise nat_eq (listed_of t) plan ≡ same → cond (not same) (Err A) (Ok t) ≡ Ok root → IsRoot declared plan ws root
    by_list r t w spelled A true p h =
        let z : root ≡ t = ok_is _ _ _ refl h in
        let y : r ≡ root = sym w.0 ∙ sym z in
        let P : Node → Type 0 = λ n. SpellsNode declared 64 ws n in
        record {
          spelled = subst P y spelled;
          formed = ap first_misfit (sym y) ∙ w.1;
          lists = ap listed_of z ∙ (bytes_eq-Decides (listed_of t) plan).0 p;
        }
    by_list r t w spelled A false p h = cc

pub record StartBack (declared : List (List ℕ)) (plan : List ℕ) (number : ℕ) (ls : List (List (List ℕ))) (x : (Option Node × ℕ) × Left) : Type 0 where
  pub source : Option (List (List ℕ))
  pub starts : IsStart declared plan source x.0.0
  pub line : x.0.1 ≡ line_if source number
  pub words : ls ≡ start_lines source ++ x.1.1

no_start : (declared : List (List ℕ)) (plan : List ℕ) (n : ℕ) (ls : List (List (List ℕ))) (x : (Option Node × ℕ) × Left) → x ≡ ((None, 0), (n, ls)) → StartBack declared plan n ls x
no_start declared plan n ls x h =
    let P : (Option Node × ℕ) × Left → Type 0 = StartBack declared plan n ls in
    subst P (sym h) (record { source = None; starts = tt; line = refl; words = refl })

start_line_back : (declared : List (List ℕ)) (plan : List ℕ) (left : Left) (x : (Option Node × ℕ) × Left) → start_line declared plan left ≡ Ok x → StartBack declared plan left.0 left.1 x
start_line_back declared plan left x e = by_lines left.0 left.1 e
  where
    by_key : (n : ℕ) (l : List (List ℕ)) (ls : List (List (List ℕ))) (t : Option (List (List ℕ))) → after_key (codes "start") l ≡ t → on_key t (Ok ((None, 0), (n, l ∷ ls))) (λ ws. start_at declared plan n ws >>= λ root. Ok ((Some root, n), (n + 1, ls))) ≡ Ok x → StartBack declared plan n (l ∷ ls) x
    by_key n l ls None p h = no_start declared plan n (l ∷ ls) x (ok_is _ _ _ refl h)
    by_key n l ls (Some ws) p h =
        let b = bind_ok (start_at declared plan n ws) _ x h in
        let z : x ≡ ((Some b.0, n), (n + 1, ls)) = ok_is _ _ _ refl b.2 in
        let P : (Option Node × ℕ) × Left → Type 0 = StartBack declared plan n (l ∷ ls) in
        subst P (sym z) (record {
          source = Some ws;
          starts = start_back declared plan n ws b.0 b.1;
          line = refl;
          words = joined _ _ _ _ (key_back (codes "start") l ws p) refl;
        })

    by_lines : (n : ℕ) (ls : List (List (List ℕ))) → start_line declared plan (n, ls) ≡ Ok x → StartBack declared plan n ls x
    by_lines n [] h = no_start declared plan n [] x (ok_is _ _ _ refl h)
    by_lines n (l ∷ ls) h = by_key n l ls (after_key (codes "start") l) refl h

lean_back : (place : ℕ) (w : List ℕ) (l : Lean) → lean_at place w ≡ Ok l → w ≡ lean_word l
lean_back place w l e = by_test (place, cause.Shape) (bytes_eq w (codes "early")) (bytes_eq w (codes "late")) refl refl l e
  where
    by_test : (A : Fault) (s t : Bool) → bytes_eq w (codes "early") ≡ s → bytes_eq w (codes "late") ≡ t → (m : Lean) → cond s (Ok leans.Early) (cond t (Ok leans.Late) (Err A)) ≡ Ok m → w ≡ lean_word m
    by_test A true t p q leans.Early h = (bytes_eq-Decides w (codes "early")).0 p
    by_test A true t p q leans.Late h = cc
    by_test A false true p q leans.Early h = cc
    by_test A false true p q leans.Late h = (bytes_eq-Decides w (codes "late")).0 q
    by_test A false false p q m h = cc

pub record ReplaceBack (declared ws : List (List ℕ)) (o : Offer) : Type 0 where
  pub replacement : Replacement
  pub words : codes "replace" ∷ ws ≡ replace_line replacement
  pub is : IsReplacement declared replacement o

replace_back : (declared : List (List ℕ)) (place : ℕ) (ws : List (List ℕ)) (o : Offer) → replace_at declared place ws ≡ Ok o → ReplaceBack declared ws o
unfolding replace_at
replace_back declared place ws o e =
    let a = bind_ok (word_at place ws) _ o e in
    let b = bind_ok (id_at place a.0.0) _ o a.2 in
    let c = bind_ok (word_at place a.0.1) _ o b.2 in
    let d = bind_ok (lean_at place c.0.0) _ o c.2 in
    let k = bind_ok (kids_until declared place no_nodes c.0.1) _ o d.2 in
    let l = bind_ok (list_at declared place [] k.0.1) _ o k.2 in
    let m = number_back 4_294_967_295 place a.0.0 b.0 b.1 in
    let u = kids_back declared place c.0.1 k.0 k.1 in
    let v = list_back declared place [] k.0.1 l.0 l.1 in
    let z : o ≡ Replace (record { block = b.0; kids = k.0.0; lean = d.0 }) l.0 = ok_is _ _ _ refl l.2 in
    record {
      replacement = record { block = a.0.0; lean = d.0; kids = u.front; names = v.0.names };
      words = cons2 _ _ _ _ refl (word_back place ws a.0 a.1 ∙ cons2 _ _ _ _ refl (word_back place a.0.1 c.0 c.1 ∙ cons2 _ _ _ _ (lean_back place c.0.0 d.0 d.1) (u.words ∙ app2 _ _ _ _ refl (cons2 _ _ _ _ refl v.0.words))));
      is = record {
        kids = k.0.0;
        actions = l.0;
        block = (m.0, m.2);
        carried = u.spelled;
        list = (let P : List ℕ → Type 0 = λ ps. ArePlaces declared v.0.names ps in subst P (sym v.1) v.0.are);
        whole = z ∙ ap (λ (i : ℕ). Replace (record { block = i; kids = k.0.0; lean = d.0 }) l.0) (sym m.1);
      };
    }

-- the ids and the pairs of the other offers

id_back : (place : ℕ) (w : List ℕ) (id : ℕ) → id_at place w ≡ Ok id → IsId w × (id ≡ number_of w)
id_back place w id e = let m = number_back 4_294_967_295 place w id e in ((m.0, m.2), sym m.1)

-- the ids that words are
pub record Numbered (ws : List (List ℕ)) : Type 0 where
  pub ids : List ℕ
  pub are : AreIds ws ids

ids_back : (place : ℕ) (done : List ℕ) (ws : List (List ℕ)) (total : List ℕ) → ids_at place done ws ≡ Ok total → (p : Numbered ws) × (total ≡ done ++ p.ids)
ids_back place done [] total e = (record { ids = []; are = tt }, let h : total ≡ done = cc in h ∙ sym (append-nil done))
ids_back place done (w ∷ ws) total e =
    let b = bind_ok (id_at place w) _ total e in
    let more = ids_back place (done ++ b.0 ∷ []) ws total b.2 in
    let one = id_back place w b.0 b.1 in
    (record { ids = b.0 ∷ more.0.ids; are = (one.0, one.1, more.0.are) }, more.1 ∙ append_assoc done (b.0 ∷ []) more.0.ids)

pub record IdsUntil (key done : List ℕ) (ws : List (List ℕ)) (x : List ℕ × List (List ℕ)) : Type 0 where
  pub front : List (List ℕ)
  pub numbered : Numbered front
  pub words : ws ≡ front ++ key ∷ x.1
  pub whole : x.0 ≡ done ++ numbered.ids

ids_until_back : (place : ℕ) (key done : List ℕ) (ws : List (List ℕ)) (x : List ℕ × List (List ℕ)) → ids_until place key done ws ≡ Ok x → IdsUntil key done ws x
ids_until_back place key done [] x e = cc
ids_until_back place key done (w ∷ ws) x e = by_test (bytes_eq w key) refl (λ id. ids_until_back place key (done ++ id ∷ []) ws x) e
  where
    by_test : (t : Bool) → bytes_eq w key ≡ t → ((id : ℕ) → ids_until place key (done ++ id ∷ []) ws ≡ Ok x → IdsUntil key (done ++ id ∷ []) ws x) → cond t (Ok (done, ws)) (id_at place w >>= λ id. ids_until place key (done ++ id ∷ []) ws) ≡ Ok x → IdsUntil key done (w ∷ ws) x
    by_test true p ih h =
        let q : w ≡ key = (bytes_eq-Decides w key).0 p in
        let r : x ≡ (done, ws) = ok_is _ _ _ refl h in
        record { front = []; numbered = record { ids = []; are = tt }; words = cons2 _ _ _ _ q (ap (λ (y : List ℕ × List (List ℕ)). y.1) (sym r)); whole = ap (λ (y : List ℕ × List (List ℕ)). y.0) r ∙ sym (append-nil done) }
    by_test false p ih h =
        let b = bind_ok (id_at place w) _ x h in
        let u = ih b.0 b.2 in
        let one = id_back place w b.0 b.1 in
        record { front = w ∷ u.front; numbered = record { ids = b.0 ∷ u.numbered.ids; are = (one.0, one.1, u.numbered.are) }; words = ap (λ (xs : List (List ℕ)). w ∷ xs) u.words; whole = u.whole ∙ append_assoc done (b.0 ∷ []) u.numbered.ids }

pub record TightenBack (ws : List (List ℕ)) (o : Offer) : Type 0 where
  pub block : List ℕ
  pub left : List (List ℕ)
  pub right : List (List ℕ)
  pub words : codes "tighten" ∷ ws ≡ offer_line (tightening block left right)
  pub is : IsTightening block left right o

tighten_back : (place : ℕ) (ws : List (List ℕ)) (o : Offer) → tighten_at place ws ≡ Ok o → TightenBack ws o
unfolding tighten_at
tighten_back place ws o e =
    let a = bind_ok (word_at place ws) _ o e in
    let b = bind_ok (id_at place a.0.0) _ o a.2 in
    let c = bind_ok (key_at place (codes "left") a.0.1) _ o b.2 in
    let l = bind_ok (ids_until place (codes "right") [] c.0) _ o c.2 in
    let r = bind_ok (ids_at place [] l.0.1) _ o l.2 in
    let one = id_back place a.0.0 b.0 b.1 in
    let u = ids_until_back place (codes "right") [] c.0 l.0 l.1 in
    let v = ids_back place [] l.0.1 r.0 r.1 in
    let z : o ≡ Tighten b.0 l.0.0 r.0 = ok_is _ _ _ refl r.2 in
    record {
      block = a.0.0;
      left = u.front;
      right = l.0.1;
      words = cons2 _ _ _ _ refl (word_back place ws a.0 a.1 ∙ cons2 _ _ _ _ refl (key_back (codes "left") a.0.1 c.0 (needed_ok _ (after_key (codes "left") a.0.1) c.0 c.1) ∙ cons2 _ _ _ _ refl u.words));
      is = record {
        left_ids = l.0.0;
        right_ids = r.0;
        block_id = one.0;
        are_left = (let P : List ℕ → Type 0 = AreIds u.front in subst P (sym u.whole) u.numbered.are);
        are_right = (let P : List ℕ → Type 0 = AreIds l.0.1 in subst P (sym v.1) v.0.are);
        whole = z ∙ ap (λ (i : ℕ). Tighten i l.0.0 r.0) one.1;
      };
    }

pairs_back : (place : ℕ) (done : List (ℕ × ℕ)) (ws : List (List ℕ)) (total : List (ℕ × ℕ)) → pairs_at place done ws ≡ Ok total → (more : List (ℕ × ℕ)) × ArePairs ws more × (total ≡ done ++ more)
pairs_back place done [] total e = ([], tt, let h : total ≡ done = cc in h ∙ sym (append-nil done))
pairs_back place done (w ∷ ws) total e =
    let b = bind_ok (pair_at place w) _ total e in
    let more = pairs_back place (done ++ b.0 ∷ []) ws total b.2 in
    (b.0 ∷ more.0, (pair_back place w b.0 b.1, more.1), more.2 ∙ append_assoc done (b.0 ∷ []) more.0)

rebuild_back : (place : ℕ) (ws : List (List ℕ)) (o : Offer) → rebuild_at place ws ≡ Ok o → IsRebuild ws o
rebuild_back place ws o e =
    let b = bind_ok (pairs_at place [] ws) _ o e in
    let p = pairs_back place [] ws b.0 b.1 in
    let z : o ≡ Rebuild b.0 = ok_is _ _ _ refl b.2 in
    record { pairs = p.0; are = p.1; whole = z ∙ ap Rebuild p.2 }

-- the offer that a line is, as it is written
pub record OfferBack (declared l : List (List ℕ)) (o : Offer) : Type 0 where
  pub written : Offered
  pub words : l ≡ offer_line written
  pub is : IsOffer declared written o

some_is : (o p : Offer) (r : Result Offer Fault) → (r >>= found) ≡ Ok (Some o) → r ≡ Ok p → p ≡ o
some_is o p (Ok q) e f = cc
some_is o p (Err d) e f = cc

offer_back : (declared : List (List ℕ)) (place : ℕ) (l : List (List ℕ)) (o : Offer) → offer_at declared place l ≡ Ok (Some o) → OfferBack declared l o
offer_back declared place l o e = by_replace (after_key (codes "replace") l) refl e
  where
    by_rebuild : (t : Option (List (List ℕ))) → after_key (codes "rebuild") l ≡ t → on_key t (Ok None) (λ ws. rebuild_at place ws >>= found) ≡ Ok (Some o) → OfferBack declared l o
    by_rebuild None p h = cc
    by_rebuild (Some ws) p h =
        let b = bind_ok (rebuild_at place ws) _ (Some o) h in
        let z : b.0 ≡ o = some_is o b.0 (rebuild_at place ws) h b.1 in
        let P : Offer → Type 0 = IsRebuild ws in
        record { written = rebuild ws; words = key_back (codes "rebuild") l ws p; is = subst P z (rebuild_back place ws b.0 b.1) }

    by_tighten : (t : Option (List (List ℕ))) → after_key (codes "tighten") l ≡ t → on_key t (on_key (after_key (codes "rebuild") l) (Ok None) (λ ws. rebuild_at place ws >>= found)) (λ ws. tighten_at place ws >>= found) ≡ Ok (Some o) → OfferBack declared l o
    by_tighten None p h = by_rebuild (after_key (codes "rebuild") l) refl h
    by_tighten (Some ws) p h =
        let b = bind_ok (tighten_at place ws) _ (Some o) h in
        let z : b.0 ≡ o = some_is o b.0 (tighten_at place ws) h b.1 in
        let u = tighten_back place ws b.0 b.1 in
        let P : Offer → Type 0 = IsTightening u.block u.left u.right in
        record { written = tightening u.block u.left u.right; words = key_back (codes "tighten") l ws p ∙ u.words; is = subst P z u.is }

    by_replace : (t : Option (List (List ℕ))) → after_key (codes "replace") l ≡ t
        → on_key t (on_key (after_key (codes "tighten") l) (on_key (after_key (codes "rebuild") l) (Ok None) (λ ws. rebuild_at place ws >>= found)) (λ ws. tighten_at place ws >>= found)) (λ ws. replace_at declared place ws >>= found) ≡ Ok (Some o) → OfferBack declared l o
    by_replace None p h = by_tighten (after_key (codes "tighten") l) refl h
    by_replace (Some ws) p h =
        let b = bind_ok (replace_at declared place ws) _ (Some o) h in
        let z : b.0 ≡ o = some_is o b.0 (replace_at declared place ws) h b.1 in
        let u = replace_back declared place ws b.0 b.1 in
        let P : Offer → Type 0 = IsReplacement declared u.replacement in
        record { written = replacement u.replacement; words = key_back (codes "replace") l ws p ∙ u.words; is = subst P z u.is }

pub record OffersBack (declared : List (List ℕ)) (done : List Offer) (ls : List (List (List ℕ))) (x : List Offer × Left) : Type 0 where
  pub written : List Offered
  pub offers : List Offer
  pub are : AreOffers declared written offers
  pub whole : x.0 ≡ done ++ offers
  pub words : ls ≡ map offer_line written ++ x.1.1

no_offers : (declared : List (List ℕ)) (done : List Offer) (number : ℕ) (ls : List (List (List ℕ))) (x : List Offer × Left) → x ≡ (done, (number, ls)) → OffersBack declared done ls x
no_offers declared done number ls x h = record { written = []; offers = []; are = tt; whole = ap (λ (y : List Offer × Left). y.0) h ∙ sym (append-nil done); words = ap (λ (y : List Offer × Left). y.1.1) (sym h) }

offers_back : (declared : List (List ℕ)) (done : List Offer) (number : ℕ) (ls : List (List (List ℕ))) (x : List Offer × Left) → offers_at declared done number ls ≡ Ok x → OffersBack declared done ls x
offers_back declared done number [] x e = no_offers declared done number [] x (ok_is _ _ _ refl e)
offers_back declared done number (l ∷ ls) x e =
    let b = bind_ok (offer_at declared number l) _ x e in
    by_offer b.0 b.1 (λ all. offers_back declared all (number + 1) ls x) b.2
  where
    by_offer : (o : Option Offer) → offer_at declared number l ≡ Ok o → ((all : List Offer) → offers_at declared all (number + 1) ls ≡ Ok x → OffersBack declared all ls x) → on_offer o (Ok (done, (number, l ∷ ls))) (λ offer. offers_at declared (done ++ offer ∷ []) (number + 1) ls) ≡ Ok x → OffersBack declared done (l ∷ ls) x
    by_offer None p ih h = no_offers declared done number (l ∷ ls) x (ok_is _ _ _ refl h)
    by_offer (Some o) p ih h =
        let f = offer_back declared number l o p in
        let r = ih (done ++ o ∷ []) h in
        record {
          written = f.written ∷ r.written;
          offers = o ∷ r.offers;
          are = (f.is, r.are);
          whole = r.whole ∙ append_assoc done (o ∷ []) r.offers;
          words = joined _ _ _ _ f.words r.words;
        }

-- the end

tail_back : (left : Left) (u : Unit {0}) → tail_at left ≡ Ok u → left.1 ≡ (codes "end" ∷ []) ∷ []
unfolding tail_at
tail_back left u e =
    let a = bind_ok (line_at (codes "end") left) _ u e in
    let b = bind_ok (end_at left.0 a.0.0) _ u a.2 in
    line_back (codes "end") left a.0 a.1 ∙ joined _ _ _ _ (cons2 _ _ _ _ refl (end_back left.0 a.0.0 b.0 b.1)) (no_more_back a.0.1 u b.2)

pub record RestBack (declared : List (List ℕ)) (plan : List ℕ) (number : ℕ) (ls : List (List (List ℕ))) (x : Rest) : Type 0 where
  pub start : Option (List (List ℕ))
  pub stop : Option (List ℕ)
  pub offers : List Offered
  pub starts : IsStart declared plan start x.start
  pub line : x.start_line ≡ line_if start number
  pub stops : IsStop stop x.stop
  pub are : AreOffers declared offers x.offers
  pub words : ls ≡ start_lines start ++ (stop_lines stop ++ (map offer_line offers ++ (codes "end" ∷ []) ∷ []))

pub rest_back : (declared : List (List ℕ)) (plan : List ℕ) (left : Left) (x : Rest) → rest_at declared plan left ≡ Ok x → RestBack declared plan left.0 left.1 x
unfolding rest_at
rest_back declared plan left x e =
    let n = bind_ok (start_line declared plan left) _ x e in
    let s = bind_ok (stop_line n.0.1) _ x n.2 in
    let o = bind_ok (offers_at declared [] s.0.1.0 s.0.1.1) _ x s.2 in
    let t = bind_ok (tail_at o.0.1) _ x o.2 in
    let z : x ≡ record { start = n.0.0.0; start_line = n.0.0.1; stop = s.0.0; offers = o.0.0 } = ok_is _ _ _ refl t.2 in
    let nb = start_line_back declared plan left n.0 n.1 in
    let sb = stop_line_back n.0.1 s.0 s.1 in
    let ob = offers_back declared [] s.0.1.0 s.0.1.1 o.0 o.1 in
    let P : Rest → Type 0 = RestBack declared plan left.0 left.1 in
    subst P (sym z) (record {
      start = nb.source;
      stop = sb.digits;
      offers = ob.written;
      starts = nb.starts;
      line = nb.line;
      stops = sb.stops;
      are = (let Q : List Offer → Type 0 = λ os. AreOffers declared ob.written os in subst Q (sym ob.whole) ob.are);
      words = nb.words ∙ after_lines _ _ _ _ refl (sb.words ∙ after_lines _ _ _ _ refl (ob.words ∙ after_lines _ _ _ _ refl (tail_back o.0.1 t.0 t.1)));
    })
