-- `block_checks::check_of` meets its contract. Assumes nothing.
use Rattle.std.proofs.Common.{◌≡◌, ℕ, ◌+◌, ◌%◌, [], ◌∷◌, ◌∙◌, refl, ap, sym, rules}
use Rattle.std.proofs.iter.Yields.{nat_range_steps, Range-gives}
use Rattle.std.proofs.lemmas.Fn.{fold_over}
use Rattle.std.proofs.lemmas.List.Sums.{fold-append}
use Rattle.std.specs.List.{fold, range_with_len}
use Rattle.block_checks.proofs.Checks.{folded}
use Rattle.block_checks.specs.Checks.{check_of, sum_of, file_word}
use Rattle.block_checks.proofs.check_of.Goals as goal

pub returns : goal.returns
unfolding check_of sum_of
returns c =
    let block = c.args.block.now in
    let h = λ (s k : ℕ). (s + file_word block k) % 4294967296 in
    let all : c.fold.result ≡ fold h 0 (range_with_len 0 127) =
    fold_over nat_range_steps (λ x. x) _ (λ ys a. a ≡ fold h 0 ys) _
    (λ ys a x b f' j k. (let e : b ≡ h a x = search rules in e ∙ ap (λ z. h z x) j ∙ sym (fold-append h 0 ys (x ∷ [])), search rules))
    _ (range_with_len 0 127) 0 c.fold.result (Range-gives (record { start = 0; end = 127 })) refl c.fold.ensures.ran in
    all ∙ folded (file_word block) (file_word block) (λ k. refl) 127 0 0 refl
