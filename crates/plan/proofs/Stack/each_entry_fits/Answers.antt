-- `plan::Stack::each_entry_fits` meets its contract: the entries are the first numbers of two arrays, in pairs.
use Rattle.std.proofs.Common.{Bool, ℕ, rules, tests, take, ◌∙◌}
use Rattle.std.proofs.lemmas.Iterator.{YieldsList-from_slice, YieldsList-from_zip}
use Rattle.std.proofs.lemmas.Iterator.Search.{all_from_yields_List}
use Rattle.plan.specs.code.SoundParts.{entry_within}
use Rattle.plan.proofs.laws.SoundLaws.{all_zipped}
use Rattle.plan.proofs.Stack.each_entry_fits.Goals as goal

abbrev entry_test : ℕ → ℕ × ℕ → Bool
entry_test m x = entry_within m x.0 x.1

pub returns : goal.returns
returns c =
    let s = c.args.self in
    all_from_yields_List (entry_test c.args.m) c.all.new.self _ _ c.all.ensures.ran
    (YieldsList-from_zip
    (YieldsList-from_slice (take s.depth s.link) cc)
    (YieldsList-from_slice (take s.depth s.capacity) cc))
    (λ x b q k. search (rules, tests))
    ∙ all_zipped (entry_test c.args.m) s.link s.capacity s.depth (search rules) (search rules)
