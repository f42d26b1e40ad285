-- What is spelled is read.
use Rattle.std.proofs.Common.{◌≡◌, ℕ, ◌+◌, true, false, List, [], ◌∷◌, ◌++◌, Option, None, Some, Ok, length, map, codes, refl, sym, ap, ◌∙◌, arith, append_assoc}
use Rattle.std.proofs.lemmas.List.{append-nil}
use Rattle.std.specs.Str.{bytes_eq}
use Rattle.bd_base.specs.Facts.{plus}
use Rattle.bd_task.specs.declared.ground.Action.{Action}
use Rattle.script_text.specs.declared.script.Script.{Script}
use Rattle.script_text.specs.Lines.{worded, is_name, in_parens}
use Rattle.script_text.specs.Rest.{script_with}
use Rattle.script_text.specs.Names.{is_declared}
use Rattle.script_text.specs.Reading.{set_at, set_until, list_until, declared_at, fact_at, action_at, facts_at, actions_at}
use Rattle.script_text.specs.Whole.{script_at}
use Rattle.script_text.specs.Spells.{Listed, Source, start_lines, stop_lines, start_line_of, fact_line, action_line, offer_line, AreNew, ArePlaces, IsAction, AreActionsOf, names_of, SpellsScript}
use Rattle.script_text.proofs.WordsReadLemmas.{named, known, list_complete, le_true}
use Rattle.script_text.proofs.OfferLemmas.{line_if, rest_complete}

pub set_complete : (facts : List (List ℕ)) (place : ℕ) (names : List (List ℕ)) (places : List ℕ) → ArePlaces facts names places → set_at facts place (map in_parens names) ≡ Ok (plus [] places)
set_complete facts place names places h = rw (list_complete facts place [] names places h) refl

pub list_until_complete : (facts : List (List ℕ)) (place : ℕ) (key : List ℕ) (list : List ℕ) (rest : List (List ℕ)) (names : List (List ℕ)) (places : List ℕ) → ((n : List ℕ) → bytes_eq (in_parens n) key ≡ false) → bytes_eq key key ≡ true → ArePlaces facts names places → list_until facts place key list (map in_parens names ++ key ∷ rest) ≡ Ok (list ++ places, rest)
list_until_complete facts place key list rest [] [] apart same h = rw same (ap (λ (xs : List ℕ). Ok (xs, rest)) (sym (append-nil list)))
list_until_complete facts place key list rest [] (i ∷ places) apart same h = absurd h
list_until_complete facts place key list rest (n ∷ names) [] apart same h = absurd h
list_until_complete facts place key list rest (n ∷ names) (i ∷ places) apart same h = rw (apart n, known facts place n i h.0 h.1) (list_until_complete facts place key (list ++ i ∷ []) rest names places apart same h.2 ∙ ap (λ (xs : List ℕ). Ok (xs, rest)) (append_assoc list (i ∷ []) places))

pub until_complete : (facts : List (List ℕ)) (place : ℕ) (key : List ℕ) (rest : List (List ℕ)) (names : List (List ℕ)) (places : List ℕ) → ((n : List ℕ) → bytes_eq (in_parens n) key ≡ false) → bytes_eq key key ≡ true → ArePlaces facts names places → set_until facts place key (map in_parens names ++ key ∷ rest) ≡ Ok (plus [] places, rest)
until_complete facts place key rest names places apart same h = rw (list_until_complete facts place key [] rest names places apart same h) refl

pub new_complete : (before : List (List ℕ)) (place : ℕ) (n : List ℕ) → is_name n ≡ true → is_declared n before ≡ false → declared_at before place (in_parens n) ≡ Ok (n, before ++ n ∷ [])
new_complete before place n e d = rw (named n e, d) refl

pub fact_complete : (before : List (List ℕ)) (place : ℕ) (n : List ℕ) → is_name n ≡ true → is_declared n before ≡ false → fact_at before place (in_parens n ∷ []) ≡ Ok (before ++ n ∷ [])
unfolding fact_at
fact_complete before place n e d = rw (named n e, d) refl

pub action_complete : (facts before : List (List ℕ)) (place : ℕ) (l : Listed) (a : Action) → is_name l.name ≡ true → is_declared l.name before ≡ false → IsAction facts l a
    → action_at facts before place (in_parens l.name ∷ l.cost ∷ codes "pre" ∷ (map in_parens l.pre ++ codes "add" ∷ (map in_parens l.add ++ codes "del" ∷ map in_parens l.del))) ≡ Ok (a, before ++ l.name ∷ [])
unfolding action_at
action_complete facts before place l a e d h =
    let p = until_complete facts place (codes "add") (map in_parens l.add ++ codes "del" ∷ map in_parens l.del) l.pre h.needs.places (λ n. refl) refl h.needs.are in
    let q = until_complete facts place (codes "del") (map in_parens l.del) l.add h.adds.places (λ n. refl) refl h.adds.are in
    let r = set_complete facts place l.del h.deletes.places h.deletes.are in
    rw (named l.name e, d, h.digits, le_true 1_000_000_000 _ h.cheap, p, q, r, ← h.needs.whole, ← h.adds.whole, ← h.deletes.whole, ← h.whole) refl

pub facts_complete : (rest : List (List (List ℕ))) → ((names : List (List ℕ)) (number : ℕ) → facts_at names number rest ≡ Ok (names, (number, rest)))
    → (before : List (List ℕ)) (number : ℕ) (names : List (List ℕ)) → AreNew before names → facts_at before number (map fact_line names ++ rest) ≡ Ok (before ++ names, (number + length names, rest))
facts_complete rest stop before number [] h = stop before number ∙ ap (λ (ns : List (List ℕ)). Ok (ns, (number, rest))) (sym (append-nil before)) ∙ ap (λ m. Ok (before ++ [], (m, rest))) (let e : number ≡ number + 0 = omega arith in e)
facts_complete rest stop before number (n ∷ names) h =
    let more = facts_complete rest stop (before ++ n ∷ []) (number + 1) names h.2 in
    let at : number + 1 + length names ≡ number + length (n ∷ names) = omega arith in
    rw (fact_complete before number n h.0 h.1) (more ∙ ap (λ (ns : List (List ℕ)). Ok (ns, (number + 1 + length names, rest))) (append_assoc before (n ∷ []) names) ∙ ap (λ m. Ok (before ++ n ∷ names, (m, rest))) at)

pub actions_complete : (facts : List (List ℕ)) (rest : List (List (List ℕ))) → ((names : List (List ℕ)) (actions : List Action) (number : ℕ) → actions_at facts names actions number rest ≡ Ok ((actions, names), (number, rest)))
    → (before : List (List ℕ)) (done : List Action) (number : ℕ) (listed : List Listed) (actions : List Action) → AreNew before (names_of listed) → AreActionsOf facts listed actions → actions_at facts before done number (map action_line listed ++ rest) ≡ Ok ((done ++ actions, before ++ names_of listed), (number + length listed, rest))
actions_complete facts rest stop before done number [] [] h k = rw (append-nil before, append-nil done, (let e : number + 0 ≡ number = omega arith in e)) (stop before done number)
actions_complete facts rest stop before done number [] (a ∷ actions) h k = absurd k
actions_complete facts rest stop before done number (l ∷ listed) [] h k = absurd k
actions_complete facts rest stop before done number (l ∷ listed) (a ∷ actions) h k =
    let more = actions_complete facts rest stop (before ++ l.name ∷ []) (done ++ a ∷ []) (number + 1) listed actions h.2 k.1 in
    let e : (before ++ l.name ∷ []) ++ names_of listed ≡ before ++ l.name ∷ names_of listed = append_assoc before (l.name ∷ []) (names_of listed) in
    let f : (done ++ a ∷ []) ++ actions ≡ done ++ a ∷ actions = append_assoc done (a ∷ []) actions in
    let at : number + 1 + length listed ≡ number + length (l ∷ listed) = omega arith in
    rw (action_complete facts before number l a h.0 h.1 k.0) (more ∙ rw (e, f, at) refl)

stop_facts : (listed : List Listed) (i : List (List ℕ)) (ls : List (List (List ℕ))) (names : List (List ℕ)) (number : ℕ) → facts_at names number (map action_line listed ++ (codes "init" ∷ i) ∷ ls) ≡ Ok (names, (number, map action_line listed ++ (codes "init" ∷ i) ∷ ls))
stop_facts [] i ls names number = refl
stop_facts (l ∷ listed) i ls names number = refl

lines_at : (words : Option (List (List ℕ))) (m n : ℕ) → m ≡ n → line_if words m ≡ elim words [ None ↦ 0 | Some ws ↦ n ]
lines_at None m n e = refl
lines_at (Some words) m n e = e

pub spelled_read : (text : List ℕ) (script : Script) → SpellsScript text script → script_at (worded text) ≡ Ok script
unfolding script_at
spelled_read text script h =
    let s = h.source in
    let rest : List (List (List ℕ)) = (codes "goal" ∷ map in_parens s.goal) ∷ (codes "plan" ∷ map in_parens s.plan) ∷ (start_lines s.start ++ (stop_lines s.stop ++ (map offer_line s.offers ++ (codes "end" ∷ []) ∷ []))) in
    let f = facts_complete (map action_line s.actions ++ (codes "init" ∷ map in_parens s.init) ∷ rest) (stop_facts s.actions (map in_parens s.init) rest) [] 2 s.facts h.facts_new in
    let facts_end : ℕ = 2 + length s.facts in
    let a = actions_complete s.facts ((codes "init" ∷ map in_parens s.init) ∷ rest) (λ names actions number. refl) [] [] facts_end s.actions script.task.actions h.actions_new h.actions in
    let actions_end : ℕ = facts_end + length s.actions in
    let i = set_complete s.facts actions_end s.init h.init.places h.init.are in
    let g = set_complete s.facts (actions_end + 1) s.goal h.goal.places h.goal.are in
    let p = list_complete (names_of s.actions) (actions_end + 1 + 1) [] s.plan script.plan h.plan in
    let number : ℕ = actions_end + 1 + 1 + 1 in
    let t = rest_complete (names_of s.actions) script.plan number s.start script.start s.stop script.stop s.offers script.offers h.start h.stop h.offers in
    let line : line_if s.start number ≡ script.start_line = lines_at s.start number (length s.facts + length s.actions + 5) (omega arith) ∙ sym h.start_line in
    rw (h.spelled, f, a, i, g, p, t, line, ← h.init.whole, ← h.goal.whole, ← h.facts) refl

pub one_spelled : (text : List ℕ) (s t : Script) → SpellsScript text s → SpellsScript text t → s ≡ t
one_spelled text s t h k = cc (spelled_read text s h, spelled_read text t k)
