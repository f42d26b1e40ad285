-- The text of a number has passed its range.
use Rattle.std.proofs.Common.{◌≡◌, ◌∙◌, ◌<◌, ◌⊎◌, ap, sym, subst, refl, ℕ, List, [], ◌∷◌, Option, Some, None, map, length, codes, inl, inr, arith, zero, suc, true, slice_index}
use Rattle.std.specs.Prelude.{MatchOption, option_map, slice_get, unwrap_or}
use Rattle.std.specs.Borrow.{Bor}
use Rattle.std.specs.List.{All, slice_index_or}
use Rattle.std.specs.Str.{bytes_eq}
use Rattle.std.proofs.lemmas.List.Elements.{All-get_or}
use Rattle.std.proofs.lemmas.Bool.{cases_lt}
use Rattle.std.proofs.lemmas.Slice.Eq.{bytes_eq-Decides}
use Rattle.clap.specs.Words.{App, IsParsedFrom, Rule, SameRules, app_of, args_of, found_of, groups_of, matched_of, parser_of, read_as, reading_of, rows_of, rule_of}
use Rattle.clap.specs.Built.{IsAuto}
use Rattle.clap.specs.Facts.{EntryPasses, HasReading, PassesArg, parser_of_value}
use Rattle.clap.specs.Values.{Accepts, IsUnsignedIn}
use Rattle.clap.specs.declared.builder.arg.Arg.{Arg}
use Rattle.clap.specs.declared.builder.command.Command.{Command}
use Rattle.clap.specs.declared.builder.value_parser.Reading.{Reading}
use Rattle.clap.specs.declared.builder.value_parser.Reading.TheVariants as reading
use Rattle.clap.specs.declared.builder.value_parser.ValueParser.{ValueParser}
use Rattle.clap.specs.declared.builder.value_parser.ValueParser.TheVariants as vp
use Rattle.clap.specs.declared.parser.matches.ArgMatches.{ArgMatches}
use Rattle.clap.specs.declared.parser.matches.MatchedArg.{MatchedArg}
use Rattle.clap.proofs.CallerLemmas.{entry_by_id}
use Rattle.command_words.specs.Asked.{rows_of as rows_asked}
use Rattle.command_words.specs.Built.{IsApp, IsNumberAt}

-- each argument of this id takes a number from 1 to the most
abbrev pub AreInRange : ℕ → List ℕ → List Rule → Type 0
AreInRange most id [] = Unit {0}
AreInRange most id (r ∷ rs) = (bytes_eq r.id id ≡ true → r.parser ≡ Some (vp.Unsigned 1 most)) × AreInRange most id rs

in_args : (most : ℕ) (id : List ℕ) (args : List Arg) → AreInRange most id (map rule_of args)
    → (k : ℕ) (d : Arg) → k < length args → bytes_eq (slice_index_or args k d).id.now id ≡ true
    → (slice_index_or args k d).value_parser ≡ Some (vp.Unsigned 1 most)
in_args most id [] h k d lt same = absurd (omega arith)
in_args most id (x ∷ xs) h zero d lt same = h.0 same
in_args most id (x ∷ xs) h (suc k) d lt same = in_args most id xs h.1 k d (omega arith) same

-- so does each argument of the built command
parser_is : (cmd : Command) (m : ArgMatches) (p : IsParsedFrom cmd m) (most : ℕ) (id : List ℕ) → AreInRange most id (map rule_of (args_of cmd))
    → ((id ≡ codes "help") ⊎ (id ≡ codes "version") → ⊥)
    → (j : ℕ) (x : Arg) → j < length (args_of p.built) → slice_index_or (args_of p.built) j x ≡ x → bytes_eq x.id.now id ≡ true
    → parser_of x ≡ vp.Unsigned 1 most
parser_is cmd m p most id within own j x high at same = elim (cases_lt j (length (args_of cmd))) [
  | inl under ↦
      let s = subst (λ (w : Arg). SameRules (slice_index_or (args_of cmd) j x) w) at (p.from.kept j x under).1 in
      let there : bytes_eq (slice_index_or (args_of cmd) j x).id.now id ≡ true = rw (← s.id) same in
      ap parser_of_value (s.parser (vp.Unsigned 1 most) (in_args most id (args_of cmd) within j x under there))
  | inr over ↦
      let flag = subst IsAuto at (p.from.extra j x over high) in
      let x_id : x.id.now ≡ id = (bytes_eq-Decides x.id.now id).0 same in
      absurd (own (elim flag [ inl h ↦ inl (sym x_id ∙ h) | inr h ↦ inr (sym x_id ∙ h) ]))
]

head_passes : (c : Command) (id t : List ℕ) (how : Reading) (vs : List (Bor (List ℕ))) → how ≡ reading.AsWritten
    → All (λ v. PassesArg c id v.now) vs → option_map (λ s. read_as how s.now) (slice_get vs 0) ≡ Some t → PassesArg c id t
head_passes c id t how [] is all e = absurd (no_text None refl e)
  where
    no_text : (x : Option (List ℕ)) → x ≡ None → x ≡ Some t → ⊥
    no_text x n s =
        let bad : None ≡ Some t = sym n ∙ s in
        cc
head_passes c id t how (v ∷ vs) is all e =
    let same : v.now ≡ t = ap (λ (o : Option (List ℕ)). unwrap_or o t) (subst (λ (h : Reading). Some (read_as h v.now) ≡ Some t) is e) in
    subst (PassesArg c id) same (All-get_or (λ (w : Bor (List ℕ)). PassesArg c id w.now) (v ∷ vs) 0 v (omega arith) all)

pub number_passes : (cmd : Command) (a : App) (m : ArgMatches) (most : ℕ) (id : List ℕ) → IsApp a cmd → IsParsedFrom cmd m
    → AreInRange most id a.top.rules → (id ≡ [] → ⊥) → ((id ≡ codes "help") ⊎ (id ≡ codes "version") → ⊥) → IsNumberAt m id most
number_passes cmd a m most id is p within named own t found = go (matched_of (found_of m) id) refl
  where
    range : AreInRange most id (map rule_of (args_of cmd))
    range = subst (AreInRange most id) (sym (ap (λ (x : App). x.top.rules) is.app)) within

    no_groups : groups_of p.built ≡ []
    no_groups = (p.from.plain is.plain).1

    passes : PassesArg p.built id t → IsUnsignedIn 1 most t
    passes h = subst (λ (q : ValueParser). Accepts h.1.ignore_case q t) (parser_is cmd m p most id range own h.0 h.1 h.2 h.3 h.4.0) h.4.1

    written : (r : Reading) → HasReading p.built id r → r ≡ reading.AsWritten
    written r h = sym h.4.1 ∙ ap reading_of (parser_is cmd m p most id range own h.0 h.1 h.2 h.3 h.4.0)

    at_entry : (x : MatchedArg) → matched_of (found_of m) id ≡ Some x → option_map (λ s. read_as x.reading s.now) (slice_get x.vals.items 0) ≡ Some t → IsUnsignedIn 1 most t
    at_entry x e text =
        let got = entry_by_id (EntryPasses p.built) (found_of m).entries.items id x (p.parsed (p.from.globals ∙ is.local)).values e in
        let key : got.0.0.now ≡ id = (bytes_eq-Decides got.0.0.now id).0 got.2 in
        let no_group : got.0.1.is_group ≡ true → ⊥ = λ g. elim (got.3.3 g) [
          | inl empty ↦ named (sym key ∙ empty)
          | inr lots ↦
              let bad : 0 < 0 = rw no_groups at lots in
              absurd (omega arith)
        ] in
        let all : All (λ v. PassesArg p.built id v.now) x.vals.items = elim got.3.0 [
          | inl g ↦ absurd (no_group g)
          | inr vals ↦ subst (λ (w : List ℕ). All (λ v. PassesArg p.built w v.now) x.vals.items) key (rw got.1 at vals)
        ] in
        let as_written : got.0.1.reading ≡ reading.AsWritten = elim got.3.4 [
          | inl g ↦ absurd (no_group g)
          | inr h ↦ written got.0.1.reading (subst (λ (w : List ℕ). HasReading p.built w got.0.1.reading) key h)
        ] in
        passes (head_passes p.built id t x.reading x.vals.items (ap (λ (y : MatchedArg). y.reading) (sym got.1) ∙ as_written) all text)

    go : (o : Option MatchedArg) → matched_of (found_of m) id ≡ o → IsUnsignedIn 1 most t
    go None e =
        let bad : None ≡ Some t = rw e at found in
        cc
    go (Some x) e = at_entry x e (rw e at found)

-- a parse that clap took is one of the command's
pub parsed_of : (cmd : Command) (words : List (List ℕ)) (o : Option ArgMatches) (m : ArgMatches) → o ≡ Some m
    → MatchOption o (rows_asked (app_of cmd) words ≡ None) (λ x. (rows_asked (app_of cmd) words ≡ Some (rows_of (found_of x))) × IsParsedFrom cmd x)
    → IsParsedFrom cmd m
parsed_of cmd words o m is h =
    (subst (λ (x : Option ArgMatches). MatchOption x (rows_asked (app_of cmd) words ≡ None) (λ y. (rows_asked (app_of cmd) words ≡ Some (rows_of (found_of y))) × IsParsedFrom cmd y)) is h).1

-- an id that begins otherwise names no argument that building adds
pub not_auto : (id : List ℕ) (x : ℕ) → slice_index id 0 ≡ x → (x ≡ 104 → ⊥) → (x ≡ 118 → ⊥) → (id ≡ codes "help") ⊎ (id ≡ codes "version") → ⊥
not_auto id x first help version (inl e) = help (sym first ∙ ap (λ (l : List ℕ). slice_index l 0) e)
not_auto id x first help version (inr e) = version (sym first ∙ ap (λ (l : List ℕ). slice_index l 0) e)
