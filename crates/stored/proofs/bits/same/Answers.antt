-- `stored::bits::same` meets its contract: it tests each pair of a number and a word. Assumes nothing.
use Rattle.std.proofs.Common.{◌≡◌, ℕ, Bool, true, false, ◌&&◌, eqb, List, [], ◌∷◌, length, sym, subst, refl, arith, rules, tests, eq-eqb, ◌∙◌}
use Rattle.std.proofs.lemmas.Bool.{eqb-true, false≢true}
use Rattle.std.specs.List.{list_all, zip}
use Rattle.std.proofs.lemmas.Iterator.{YieldsList-from_zip, YieldsList-from_slice}
use Rattle.std.proofs.lemmas.Iterator.Search.{all_from_yields_List}
use lib.Ieee.{Float, binary64, to_bits}
use Rattle.stored.specs.Stored.{bits_of, Says}
use Rattle.stored.proofs.bits.same.Goals as goal

both : (b r : Bool) (a v : ℕ) (xs w : List ℕ) → eqb a v ≡ b → Says r (xs ≡ w) → Says (b && r) (a ∷ xs ≡ v ∷ w)
both true true a v xs w e h = let head : a ≡ v = eqb-true a v e in cc
both true false a v xs w e h = λ (f : a ∷ xs ≡ v ∷ w). h cc
both false r a v xs w e h = λ (f : a ∷ xs ≡ v ∷ w). let head : a ≡ v = cc in absurd (false≢true (sym e ∙ eq-eqb a v head))

says : (x : List Float) (w : List ℕ) → length x ≡ length w → Says (list_all (λ p. eqb (to_bits binary64 p.0) p.1) (zip x w)) (bits_of x ≡ w)
unfolding bits_of
says [] [] e = refl
says [] (v ∷ w) e = absurd (omega arith)
says (a ∷ x) [] e = absurd (omega arith)
says (a ∷ x) (v ∷ w) e = both (eqb (to_bits binary64 a) v) (list_all (λ p. eqb (to_bits binary64 p.0) p.1) (zip x w)) (to_bits binary64 a) v (bits_of x) w refl (says x w (omega arith))

pub returns : goal.returns
returns c =
    let x = c.args.x.now in
    let w = c.args.w.now in
    let answer = all_from_yields_List (λ p. eqb (to_bits binary64 p.0) p.1) c.all.new.self _ c.all.result c.all.ensures.ran (YieldsList-from_zip (YieldsList-from_slice x cc) (YieldsList-from_slice w cc)) (λ y b q k. search (rules, tests)) in
    subst (λ b. Says b (bits_of x ≡ w)) (sym answer) (says x w c.requires)
