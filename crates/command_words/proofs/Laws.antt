-- Laws for crates above: words that ask for one command ask for no other.
use Rattle.std.proofs.Common.{◌≡◌, ◌∙◌, ap, sym, ℕ, Bool, true, false, List, [], ◌∷◌, Option, Some, None, codes, cond, refl}
use Rattle.std.specs.Prelude.{option_and_then}
use Rattle.std.specs.Str.{bytes_eq}
use Rattle.std.proofs.lemmas.Slice.Eq.{bytes_eq-Decides}
use Rattle.command_words.specs.declared.request.Numbers.{Numbers}
use Rattle.command_words.specs.Alone.{AsksBenchAlone, AsksCheckAlone, AsksDeorderAlone, AsksImproveAlone, AsksReplayAlone}
use Rattle.command_words.specs.Asked.{Names, behind, bench_asked, bench_in, check_asked, check_in, deorder_asked, deorder_in, improve_asked, improve_in, replay_asked, replay_in}

-- the words behind one name are not behind another
behind_one : (m n : List ℕ) → bytes_eq m n ≡ false → (words rest : List (List ℕ)) → behind m words ≡ Some rest → behind n words ≡ None
behind_one m n apart [] rest is = refl
behind_one m n apart (first ∷ more) rest is = go (bytes_eq first m) refl
  where
    go : (b : Bool) → bytes_eq first m ≡ b → behind n (first ∷ more) ≡ None
    go true e =
        let same : first ≡ m = (bytes_eq-Decides first m).0 e in
        let no : bytes_eq first n ≡ false = ap (λ (w : List ℕ). bytes_eq w n) same ∙ apart in
        ap (λ (b : Bool). cond b (Some more) None) no
    go false e =
        let bad : None ≡ Some rest = sym (ap (λ (b : Bool). cond b (Some more) None) e) ∙ is in
        cc

-- what is asked of one command is asked of no other
apart : {T U : Type 0} (m n : List ℕ) (f : List (List ℕ) → Option T) (g : List (List ℕ) → Option U) → bytes_eq m n ≡ false
    → (words : List (List ℕ)) (t : T) → option_and_then f (behind m words) ≡ Some t → option_and_then g (behind n words) ≡ None
apart {T} {U} m n f g differ words t is = go (behind m words) refl
  where
    go : (o : Option (List (List ℕ))) → behind m words ≡ o → option_and_then g (behind n words) ≡ None
    go None e =
        let bad : None ≡ Some t = sym (ap (λ (o : Option (List (List ℕ))). option_and_then f o) e) ∙ is in
        cc
    go (Some rest) e = ap (λ (o : Option (List (List ℕ))). option_and_then g o) (behind_one m n differ words rest e)

pub improve_alone : (words : List (List ℕ)) (asked : Names × Numbers) → improve_asked words ≡ Some asked → AsksImproveAlone words
improve_alone words asked is = record {
  check = apart (codes "improve") (codes "check") improve_in check_in refl words asked is;
  deorder = apart (codes "improve") (codes "deorder") improve_in deorder_in refl words asked is;
  replay = apart (codes "improve") (codes "replay") improve_in replay_in refl words asked is;
  bench = apart (codes "improve") (codes "bench") improve_in bench_in refl words asked is;
}

pub check_alone : (words : List (List ℕ)) (asked : Names) → check_asked words ≡ Some asked → AsksCheckAlone words
check_alone words asked is = record {
  improve = apart (codes "check") (codes "improve") check_in improve_in refl words asked is;
  deorder = apart (codes "check") (codes "deorder") check_in deorder_in refl words asked is;
  replay = apart (codes "check") (codes "replay") check_in replay_in refl words asked is;
  bench = apart (codes "check") (codes "bench") check_in bench_in refl words asked is;
}

pub deorder_alone : (words : List (List ℕ)) (asked : Names × ℕ) → deorder_asked words ≡ Some asked → AsksDeorderAlone words
deorder_alone words asked is = record {
  improve = apart (codes "deorder") (codes "improve") deorder_in improve_in refl words asked is;
  check = apart (codes "deorder") (codes "check") deorder_in check_in refl words asked is;
  replay = apart (codes "deorder") (codes "replay") deorder_in replay_in refl words asked is;
  bench = apart (codes "deorder") (codes "bench") deorder_in bench_in refl words asked is;
}

pub replay_alone : (words : List (List ℕ)) (asked : List ℕ) → replay_asked words ≡ Some asked → AsksReplayAlone words
replay_alone words asked is = record {
  improve = apart (codes "replay") (codes "improve") replay_in improve_in refl words asked is;
  check = apart (codes "replay") (codes "check") replay_in check_in refl words asked is;
  deorder = apart (codes "replay") (codes "deorder") replay_in deorder_in refl words asked is;
  bench = apart (codes "replay") (codes "bench") replay_in bench_in refl words asked is;
}

pub bench_alone : (words : List (List ℕ)) (asked : ℕ) → bench_asked words ≡ Some asked → AsksBenchAlone words
bench_alone words asked is = record {
  improve = apart (codes "bench") (codes "improve") bench_in improve_in refl words asked is;
  check = apart (codes "bench") (codes "check") bench_in check_in refl words asked is;
  deorder = apart (codes "bench") (codes "deorder") bench_in deorder_in refl words asked is;
  replay = apart (codes "bench") (codes "replay") bench_in replay_in refl words asked is;
}
