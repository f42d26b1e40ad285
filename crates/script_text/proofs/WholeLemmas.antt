-- What is read as a line, and as a whole text, is spelled.
use Rattle.std.proofs.Common.{◌≡◌, ℕ, ◌+◌, Bool, true, false, cond, List, [], ◌∷◌, ◌++◌, Option, Some, None, Ok, Err, map, length, codes, refl, sym, ap, subst, ◌∙◌, arith, append_assoc}
use Rattle.std.proofs.lemmas.List.{append-nil}
use Rattle.std.proofs.lemmas.Slice.Eq.{bytes_eq-Decides}
use Rattle.std.specs.Str.{bytes_eq}
use Rattle.bd_base.specs.declared.text_err.Cause.TheVariants as cause
use Rattle.bd_base.specs.Facts.{plus, minus}
use Rattle.bd_task.specs.declared.ground.Action.{Action}
use Rattle.script_text.specs.declared.script.Script.{Script}
use Rattle.script_text.specs.Lines.{worded, is_name, in_parens}
use Rattle.script_text.specs.Rest.{script_with}
use Rattle.script_text.specs.Names.{is_declared}
use Rattle.script_text.specs.Reading.{Fault, Left, ◌>>=◌, on_key, after_key, name_in, name_at, known_at, number_at, word_at, key_at, end_at, set_at, set_until, list_at, list_until, declared_at, fact_at, action_at, facts_at, actions_at, line_at, head_at, set_line, plan_line}
use Rattle.script_text.specs.Whole.{rest_at, script_at}
use Rattle.script_text.specs.Spells.{Listed, Source, fact_line, action_line, start_line_of, AreNew, ArePlaces, IsSetOf, IsAction, AreActionsOf, names_of, IsStart, AreOffers, SpellsScript}
use Rattle.script_text.proofs.ReadLemmas.{bind_ok, ok_is, needed_ok, named_back, known_back, Placed, no_places, more_places, set_back, list_back}
use Rattle.script_text.proofs.PartLemmas.{joined, cons2, app2, after_lines, key_back, end_back, word_back, number_back, line_back, line_next}
use Rattle.script_text.proofs.OfferBackLemmas.{rest_back}
use Rattle.script_text.proofs.OfferLemmas.{line_if}

pub record Until (facts : List (List ℕ)) (key list : List ℕ) (ws : List (List ℕ)) (x : List ℕ × List (List ℕ)) : Type 0 where
  pub front : List (List ℕ)
  pub placed : Placed facts front
  pub words : ws ≡ front ++ key ∷ x.1
  pub whole : x.0 ≡ list ++ placed.places

list_until_back : (facts : List (List ℕ)) (place : ℕ) (key list : List ℕ) (ws : List (List ℕ)) (x : List ℕ × List (List ℕ)) → list_until facts place key list ws ≡ Ok x → Until facts key list ws x
list_until_back facts place key list [] x e = cc
list_until_back facts place key list (w ∷ ws) x e = by_test (bytes_eq w key) refl (λ i. list_until_back facts place key (list ++ i ∷ []) ws x) e
  where
    by_test : (t : Bool) → bytes_eq w key ≡ t → ((i : ℕ) → list_until facts place key (list ++ i ∷ []) ws ≡ Ok x → Until facts key (list ++ i ∷ []) ws x) → cond t (Ok (list, ws)) (known_at facts place w >>= λ i. list_until facts place key (list ++ i ∷ []) ws) ≡ Ok x → Until facts key list (w ∷ ws) x
    by_test true p ih h =
        let q : w ≡ key = (bytes_eq-Decides w key).0 p in
        let r : x ≡ (list, ws) = cc in
        record { front = []; placed = no_places facts; words = rw (q, r) refl; whole = rw r (sym (append-nil list)) }
    by_test false p ih h =
        let b = bind_ok (known_at facts place w) _ x h in
        let u = ih b.0 b.2 in
        record { front = w ∷ u.front; placed = more_places facts w u.front b.0 (known_back facts place w b.0 b.1) u.placed; words = ap (λ (xs : List (List ℕ)). w ∷ xs) u.words; whole = u.whole ∙ append_assoc list (b.0 ∷ []) u.placed.places }

pub record SetUntil (facts : List (List ℕ)) (key : List ℕ) (ws : List (List ℕ)) (x : List ℕ × List (List ℕ)) : Type 0 where
  pub front : List (List ℕ)
  pub placed : Placed facts front
  pub words : ws ≡ front ++ key ∷ x.1
  pub whole : x.0 ≡ plus [] placed.places

until_back : (facts : List (List ℕ)) (place : ℕ) (key : List ℕ) (ws : List (List ℕ)) (x : List ℕ × List (List ℕ)) → set_until facts place key ws ≡ Ok x → SetUntil facts key ws x
until_back facts place key ws x e =
    let b = bind_ok (list_until facts place key [] ws) _ x e in
    let u = list_until_back facts place key [] ws b.0 b.1 in
    let y : x ≡ (plus [] b.0.0, b.0.1) = ok_is _ _ _ refl b.2 in
    record {
      front = u.front;
      placed = u.placed;
      words = u.words ∙ ap (λ (z : List ℕ × List (List ℕ)). u.front ++ key ∷ z.1) (sym y);
      whole = ap (λ (z : List ℕ × List (List ℕ)). z.0) y ∙ ap (λ (xs : List ℕ). plus [] xs) u.whole;
    }

pub record Declared (before : List (List ℕ)) (w : List ℕ) (x : List ℕ × List (List ℕ)) : Type 0 where
  pub word : w ≡ in_parens x.0
  pub named : is_name x.0 ≡ true
  pub new : is_declared x.0 before ≡ false
  pub names : x.1 ≡ before ++ x.0 ∷ []

declared_back : (before : List (List ℕ)) (place : ℕ) (w : List ℕ) (x : List ℕ × List (List ℕ)) → declared_at before place w ≡ Ok x → Declared before w x
declared_back before place w x e =
    let b = bind_ok (name_at place w) _ x e in
    let n = named_back w b.0 (needed_ok _ (name_in w) b.0 b.1) in
    by_test (place, cause.Clash w) b.0 n.0 n.1 (is_declared b.0 before) refl b.2
  where
    by_test : (A : Fault) (n : List ℕ) → w ≡ in_parens n → is_name n ≡ true → (t : Bool) → is_declared n before ≡ t → cond t (Err A) (Ok (n, before ++ n ∷ [])) ≡ Ok x → Declared before w x
    by_test A n p q true r h = cc
    by_test A n p q false r h =
        let s : x ≡ (n, before ++ n ∷ []) = cc in
        record { word = rw s p; named = rw s q; new = rw s r; names = rw s refl }

pub record FactBack (before : List (List ℕ)) (ws more : List (List ℕ)) : Type 0 where
  pub name : List ℕ
  pub words : ws ≡ in_parens name ∷ []
  pub named : is_name name ≡ true
  pub new : is_declared name before ≡ false
  pub names : more ≡ before ++ name ∷ []

fact_back : (before : List (List ℕ)) (place : ℕ) (ws more : List (List ℕ)) → fact_at before place ws ≡ Ok more → FactBack before ws more
unfolding fact_at
fact_back before place ws more e =
    let a = bind_ok (word_at place ws) _ more e in
    let b = bind_ok (declared_at before place a.0.0) _ more a.2 in
    let c = bind_ok (end_at place a.0.1) _ more b.2 in
    let d = declared_back before place a.0.0 b.0 b.1 in
    let m : more ≡ b.0.1 = ok_is _ _ _ refl c.2 in
    record { name = b.0.0; words = word_back place ws a.0 a.1 ∙ cons2 _ _ _ _ d.word (end_back place a.0.1 c.0 c.1); named = d.named; new = d.new; names = m ∙ d.names }

pub record ActionBack (facts before ws : List (List ℕ)) (x : Action × List (List ℕ)) : Type 0 where
  pub listed : Listed
  pub words : ws ≡ in_parens listed.name ∷ listed.cost ∷ codes "pre" ∷ (map in_parens listed.pre ++ codes "add" ∷ (map in_parens listed.add ++ codes "del" ∷ map in_parens listed.del))
  pub named : is_name listed.name ≡ true
  pub new : is_declared listed.name before ≡ false
  pub action : IsAction facts listed x.0
  pub names : x.1 ≡ before ++ listed.name ∷ []

set_of : (facts ws : List (List ℕ)) (set : List ℕ) (p : Placed facts ws) → set ≡ plus [] p.places → IsSetOf facts p.names set
set_of facts ws set p e = record { places = p.places; are = p.are; whole = e }

action_back : (facts before : List (List ℕ)) (place : ℕ) (ws : List (List ℕ)) (x : Action × List (List ℕ)) → action_at facts before place ws ≡ Ok x → ActionBack facts before ws x
unfolding action_at
action_back facts before place ws x e =
    let a = bind_ok (word_at place ws) _ x e in
    let b = bind_ok (declared_at before place a.0.0) _ x a.2 in
    let c = bind_ok (word_at place a.0.1) _ x b.2 in
    let d = bind_ok (number_at 1_000_000_000 place c.0.0) _ x c.2 in
    let k = bind_ok (key_at place (codes "pre") c.0.1) _ x d.2 in
    let p = bind_ok (set_until facts place (codes "add") k.0) _ x k.2 in
    let q = bind_ok (set_until facts place (codes "del") p.0.1) _ x p.2 in
    let r = bind_ok (set_at facts place q.0.1) _ x q.2 in
    let n = declared_back before place a.0.0 b.0 b.1 in
    let m = number_back 1_000_000_000 place c.0.0 d.0 d.1 in
    let u = until_back facts place (codes "add") k.0 p.0 p.1 in
    let v = until_back facts place (codes "del") p.0.1 q.0 q.1 in
    let w = set_back facts place q.0.1 r.0 r.1 in
    let z : x ≡ (record { name = b.0.0; cost = d.0; pre = p.0.0; add = q.0.0; del = minus r.0 q.0.0 }, b.0.1) = ok_is _ _ _ refl r.2 in
    record {
      listed = record { name = b.0.0; cost = c.0.0; pre = u.placed.names; add = v.placed.names; del = w.0.names };
      words = word_back place ws a.0 a.1 ∙ cons2 _ _ _ _ n.word (word_back place a.0.1 c.0 c.1 ∙ cons2 _ _ _ _ refl (key_back (codes "pre") c.0.1 k.0 (needed_ok _ (after_key (codes "pre") c.0.1) k.0 k.1) ∙ cons2 _ _ _ _ refl (u.words ∙ app2 _ _ _ _ u.placed.words (cons2 _ _ _ _ refl (v.words ∙ app2 _ _ _ _ v.placed.words (cons2 _ _ _ _ refl w.0.words))))));
      named = n.named;
      new = n.new;
      action = record {
        add = q.0.0;
        del = r.0;
        digits = m.0;
        cheap = m.2;
        pre = p.0.0;
        needs = set_of facts u.front p.0.0 u.placed u.whole;
        adds = set_of facts v.front q.0.0 v.placed v.whole;
        deletes = set_of facts q.0.1 r.0 w.0 w.1;
        whole = ap (λ (y : Action × List (List ℕ)). y.0) z ∙ ap (λ (cost : ℕ). record { name = b.0.0; cost = cost; pre = p.0.0; add = q.0.0; del = minus r.0 q.0.0 }) (sym m.1);
      };
      names = ap (λ (y : Action × List (List ℕ)). y.1) z ∙ n.names;
    }

pub record FactsBack (before : List (List ℕ)) (number : ℕ) (ls : List (List (List ℕ))) (x : List (List ℕ) × Left) : Type 0 where
  pub names : List (List ℕ)
  pub new : AreNew before names
  pub whole : x.0 ≡ before ++ names
  pub words : ls ≡ map fact_line names ++ x.1.1
  pub last : x.1.0 ≡ number + length names

no_facts : (before : List (List ℕ)) (number : ℕ) (ls : List (List (List ℕ))) (x : List (List ℕ) × Left) → x ≡ (before, (number, ls)) → FactsBack before number ls x
no_facts before number ls x h = record { names = []; new = tt; whole = rw h (sym (append-nil before)); words = rw h refl; last = (let at : x.1.0 ≡ number = ap (λ (y : List (List ℕ) × Left). y.1.0) h in omega arith) }

facts_back : (before : List (List ℕ)) (number : ℕ) (ls : List (List (List ℕ))) (x : List (List ℕ) × Left) → facts_at before number ls ≡ Ok x → FactsBack before number ls x
facts_back before number [] x e = no_facts before number [] x (ok_is _ _ _ refl e)
facts_back before number (l ∷ ls) x e = by_test (after_key (codes "fact") l) refl (λ more. facts_back more (number + 1) ls x) e
  where
    by_test : (t : Option (List (List ℕ))) → after_key (codes "fact") l ≡ t → ((more : List (List ℕ)) → facts_at more (number + 1) ls ≡ Ok x → FactsBack more (number + 1) ls x) → on_key t (Ok (before, (number, l ∷ ls))) (λ ws. fact_at before number ws >>= λ more. facts_at more (number + 1) ls) ≡ Ok x → FactsBack before number (l ∷ ls) x
    by_test None p ih h = no_facts before number (l ∷ ls) x (ok_is _ _ _ refl h)
    by_test (Some ws) p ih h =
        let b = bind_ok (fact_at before number ws) _ x h in
        let f = fact_back before number ws b.0 b.1 in
        let r = ih b.0 b.2 in
        let k : l ≡ fact_line f.name = key_back (codes "fact") l ws p ∙ ap (λ (xs : List (List ℕ)). codes "fact" ∷ xs) f.words in
        record {
          names = f.name ∷ r.names;
          new = (f.named, f.new, (let P : List (List ℕ) → Type 0 = λ ns. AreNew ns r.names in subst P f.names r.new));
          whole = r.whole ∙ ap (λ (ns : List (List ℕ)). ns ++ r.names) f.names ∙ append_assoc before (f.name ∷ []) r.names;
          words = joined _ _ _ _ k r.words;
          last = omega (arith, r.last);
        }

pub record ActionsBack (facts before : List (List ℕ)) (done : List Action) (number : ℕ) (ls : List (List (List ℕ))) (x : (List Action × List (List ℕ)) × Left) : Type 0 where
  pub listed : List Listed
  pub actions : List Action
  pub new : AreNew before (names_of listed)
  pub are : AreActionsOf facts listed actions
  pub done_too : x.0.0 ≡ done ++ actions
  pub names : x.0.1 ≡ before ++ names_of listed
  pub words : ls ≡ map action_line listed ++ x.1.1
  pub last : x.1.0 ≡ number + length listed

no_actions : (facts before : List (List ℕ)) (done : List Action) (number : ℕ) (ls : List (List (List ℕ))) (x : (List Action × List (List ℕ)) × Left) → x ≡ ((done, before), (number, ls)) → ActionsBack facts before done number ls x
no_actions facts before done number ls x h = record { listed = []; actions = []; new = tt; are = tt; done_too = rw h (sym (append-nil done)); names = rw h (sym (append-nil before)); words = rw h refl; last = (let at : x.1.0 ≡ number = ap (λ (y : (List Action × List (List ℕ)) × Left). y.1.0) h in omega arith) }

actions_back : (facts before : List (List ℕ)) (done : List Action) (number : ℕ) (ls : List (List (List ℕ))) (x : (List Action × List (List ℕ)) × Left) → actions_at facts before done number ls ≡ Ok x → ActionsBack facts before done number ls x
actions_back facts before done number [] x e = no_actions facts before done number [] x (ok_is _ _ _ refl e)
actions_back facts before done number (l ∷ ls) x e = by_test (after_key (codes "action") l) refl (λ more all. actions_back facts more all (number + 1) ls x) e
  where
    by_test : (t : Option (List (List ℕ))) → after_key (codes "action") l ≡ t → ((more : List (List ℕ)) (all : List Action) → actions_at facts more all (number + 1) ls ≡ Ok x → ActionsBack facts more all (number + 1) ls x) → on_key t (Ok ((done, before), (number, l ∷ ls))) (λ ws. action_at facts before number ws >>= λ more. actions_at facts more.1 (done ++ more.0 ∷ []) (number + 1) ls) ≡ Ok x → ActionsBack facts before done number (l ∷ ls) x
    by_test None p ih h = no_actions facts before done number (l ∷ ls) x (ok_is _ _ _ refl h)
    by_test (Some ws) p ih h =
        let b = bind_ok (action_at facts before number ws) _ x h in
        let f = action_back facts before number ws b.0 b.1 in
        let r = ih b.0.1 (done ++ b.0.0 ∷ []) b.2 in
        let k : l ≡ action_line f.listed = key_back (codes "action") l ws p ∙ ap (λ (xs : List (List ℕ)). codes "action" ∷ xs) f.words in
        record {
          listed = f.listed ∷ r.listed;
          actions = b.0.0 ∷ r.actions;
          new = (f.named, f.new, (let P : List (List ℕ) → Type 0 = λ ns. AreNew ns (names_of r.listed) in subst P f.names r.new));
          are = (f.action, r.are);
          done_too = r.done_too ∙ append_assoc done (b.0.0 ∷ []) r.actions;
          names = r.names ∙ ap (λ (ns : List (List ℕ)). ns ++ names_of r.listed) f.names ∙ append_assoc before (f.listed.name ∷ []) (names_of r.listed);
          words = joined _ _ _ _ k r.words;
          last = omega (arith, r.last);
        }

head_back : (text : List (List (List ℕ))) (left : Left) → head_at text ≡ Ok left → (text ≡ (codes "bdpo-script" ∷ codes "1" ∷ []) ∷ left.1) × (left.0 ≡ 2)
head_back text left e =
    let a = bind_ok (line_at (codes "bdpo-script") (1, text)) _ left e in
    let b = bind_ok (key_at 1 (codes "1") a.0.0) _ left a.2 in
    let c = bind_ok (end_at 1 b.0) _ left b.2 in
    let l : left ≡ a.0.1 = ok_is _ _ _ refl c.2 in
    let first = line_next (codes "bdpo-script") (1, text) a.0 a.1 in
    (line_back (codes "bdpo-script") (1, text) a.0 a.1 ∙ joined _ _ _ _ (cons2 _ _ _ _ refl (key_back (codes "1") a.0.0 b.0 (needed_ok _ (after_key (codes "1") a.0.0) b.0 b.1) ∙ cons2 _ _ _ _ refl (end_back 1 b.0 c.0 c.1))) (ap (λ (y : Left). y.1) (sym l)), ap (λ (y : Left). y.0) l ∙ first)

pub record SetLine (key : List ℕ) (facts : List (List ℕ)) (left : Left) (x : List ℕ × Left) : Type 0 where
  pub names : List (List ℕ)
  pub set : IsSetOf facts names x.0
  pub words : left.1 ≡ (key ∷ map in_parens names) ∷ x.1.1
  pub next : x.1.0 ≡ left.0 + 1

set_line_back : (key : List ℕ) (facts : List (List ℕ)) (left : Left) (x : List ℕ × Left) → set_line key facts left ≡ Ok x → SetLine key facts left x
set_line_back key facts left x e =
    let a = bind_ok (line_at key left) _ x e in
    let b = bind_ok (set_at facts left.0 a.0.0) _ x a.2 in
    let y : x ≡ (b.0, a.0.1) = ok_is _ _ _ refl b.2 in
    let s = set_back facts left.0 a.0.0 b.0 b.1 in
    record {
      names = s.0.names;
      set = set_of facts a.0.0 x.0 s.0 (ap (λ (z : List ℕ × Left). z.0) y ∙ s.1);
      words = line_back key left a.0 a.1 ∙ joined _ _ _ _ (cons2 _ _ _ _ refl s.0.words) (ap (λ (z : List ℕ × Left). z.1.1) (sym y));
      next = ap (λ (z : List ℕ × Left). z.1.0) y ∙ line_next key left a.0 a.1;
    }

pub record PlanLine (declared : List (List ℕ)) (left : Left) (x : List ℕ × Left) : Type 0 where
  pub names : List (List ℕ)
  pub are : ArePlaces declared names x.0
  pub words : left.1 ≡ (codes "plan" ∷ map in_parens names) ∷ x.1.1
  pub next : x.1.0 ≡ left.0 + 1

plan_line_back : (declared : List (List ℕ)) (left : Left) (x : List ℕ × Left) → plan_line declared left ≡ Ok x → PlanLine declared left x
plan_line_back declared left x e =
    let a = bind_ok (line_at (codes "plan") left) _ x e in
    let b = bind_ok (list_at declared left.0 [] a.0.0) _ x a.2 in
    let y : x ≡ (b.0, a.0.1) = ok_is _ _ _ refl b.2 in
    let s = list_back declared left.0 [] a.0.0 b.0 b.1 in
    let z : s.0.places ≡ x.0 = sym (ap (λ (z : List ℕ × Left). z.0) y ∙ s.1) in
    record {
      names = s.0.names;
      are = (let P : List ℕ → Type 0 = λ ps. ArePlaces declared s.0.names ps in subst P z s.0.are);
      words = line_back (codes "plan") left a.0 a.1 ∙ joined _ _ _ _ (cons2 _ _ _ _ refl s.0.words) (ap (λ (z : List ℕ × Left). z.1.1) (sym y));
      next = ap (λ (z : List ℕ × Left). z.1.0) y ∙ line_next (codes "plan") left a.0 a.1;
    }

lines_of : (words : Option (List (List ℕ))) (m n : ℕ) → m ≡ n → line_if words m ≡ elim words [ None ↦ 0 | Some ws ↦ n ]
lines_of None m n e = refl
lines_of (Some words) m n e = e

number_of_start : (head facts actions init goal plan f n a : ℕ) → head ≡ 2 → facts ≡ head + n → actions ≡ facts + a → init ≡ actions + 1 → goal ≡ init + 1 → plan ≡ goal + 1 → f ≡ n → plan ≡ f + a + 5
number_of_start head facts actions init goal plan f n a e0 e1 e2 e3 e4 e5 e6 = omega arith

pub read_spelled : (text : List ℕ) (script : Script) → script_at (worded text) ≡ Ok script → SpellsScript text script
unfolding script_at
read_spelled text script e =
    let a = bind_ok (head_at (worded text)) _ script e in
    let f = bind_ok (facts_at [] a.0.0 a.0.1) _ script a.2 in
    let c = bind_ok (actions_at f.0.0 [] [] f.0.1.0 f.0.1.1) _ script f.2 in
    let i = bind_ok (set_line (codes "init") f.0.0 c.0.1) _ script c.2 in
    let g = bind_ok (set_line (codes "goal") f.0.0 i.0.1) _ script i.2 in
    let p = bind_ok (plan_line c.0.0.1 g.0.1) _ script g.2 in
    let t = bind_ok (rest_at c.0.0.1 p.0.0 p.0.1) _ script p.2 in
    let z : script ≡ script_with (record { facts = f.0.0; actions = c.0.0.0; init = i.0.0; goal = g.0.0 }) p.0.0 t.0 = ok_is _ _ _ refl t.2 in
    let hb = head_back (worded text) a.0 a.1 in
    let fb = facts_back [] a.0.0 a.0.1 f.0 f.1 in
    let cb = actions_back f.0.0 [] [] f.0.1.0 f.0.1.1 c.0 c.1 in
    let ib = set_line_back (codes "init") f.0.0 c.0.1 i.0 i.1 in
    let gb = set_line_back (codes "goal") f.0.0 i.0.1 g.0 g.1 in
    let pb = plan_line_back c.0.0.1 g.0.1 p.0 p.1 in
    let tb = rest_back c.0.0.1 p.0.0 p.0.1 t.0 t.1 in
    let source : Source = record { facts = f.0.0; actions = cb.listed; init = ib.names; goal = gb.names; plan = pb.names; start = tb.start; stop = tb.stop; offers = tb.offers } in
    let facts_are : length f.0.0 ≡ length fb.names = ap (λ (ns : List (List ℕ)). length ns) fb.whole in
    let number : p.0.1.0 ≡ length f.0.0 + length cb.listed + 5 =
    number_of_start a.0.0 f.0.1.0 c.0.1.0 i.0.1.0 g.0.1.0 p.0.1.0 (length f.0.0) (length fb.names) (length cb.listed) hb.1 fb.last cb.last ib.next gb.next pb.next facts_are in
    let P : Script → Type 0 = λ s. SpellsScript text s in
    subst P (sym z) (record {
      source = source;
      spelled = hb.0 ∙ joined _ _ _ _ refl (fb.words ∙ after_lines _ _ _ _ (ap (λ (ns : List (List ℕ)). map fact_line ns) (sym fb.whole)) (cb.words ∙ after_lines _ _ _ _ refl (ib.words ∙ joined _ _ _ _ refl (gb.words ∙ joined _ _ _ _ refl (pb.words ∙ joined _ _ _ _ refl tb.words)))));
      facts_new = (let Q : List (List ℕ) → Type 0 = λ ns. AreNew [] ns in subst Q (sym fb.whole) fb.new);
      actions_new = cb.new;
      facts = refl;
      actions = (let Q : List Action → Type 0 = λ xs. AreActionsOf f.0.0 cb.listed xs in subst Q (sym cb.done_too) cb.are);
      init = ib.set;
      goal = gb.set;
      plan = (let Q : List (List ℕ) → Type 0 = λ ns. ArePlaces ns pb.names p.0.0 in subst Q cb.names pb.are);
      start = (let Q : List (List ℕ) → Type 0 = λ ns. IsStart ns p.0.0 tb.start t.0.start in subst Q cb.names tb.starts);
      start_line = tb.line ∙ lines_of tb.start p.0.1.0 (length f.0.0 + length cb.listed + 5) number;
      stop = tb.stops;
      offers = (let Q : List (List ℕ) → Type 0 = λ ns. AreOffers ns tb.offers t.0.offers in subst Q cb.names tb.are);
    })
