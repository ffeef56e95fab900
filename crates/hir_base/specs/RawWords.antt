-- Defines the words of each edition that are written with `r#`.
use Rattle.std.specs.Prelude.{ℕ, List, []}
use Rattle.hir_base.specs.declared.edition.Edition.{Edition}
use Rattle.hir_base.specs.declared.edition.Edition.TheVariants.{Edition2015, Edition2018, Edition2021, Edition2024}
use Rattle.hir_base.specs.declared.edition.RawWords.{RawWords}

abbrev pub no_words : RawWords
no_words = record { edition2015 = []; edition2018 = []; edition2021 = []; edition2024 = [] }

abbrev pub words_of : RawWords → Edition → List (List ℕ)
words_of words Edition2015 = words.edition2015
words_of words Edition2018 = words.edition2018
words_of words Edition2021 = words.edition2021
words_of words Edition2024 = words.edition2024

-- the words with these for one edition; the others keep theirs
abbrev pub with_words : RawWords → Edition → List (List ℕ) → RawWords
with_words words Edition2015 given = record words { edition2015 = given }
with_words words Edition2018 given = record words { edition2018 = given }
with_words words Edition2021 given = record words { edition2021 = given }
with_words words Edition2024 given = record words { edition2024 = given }
