-- What a function that writes says. Assumes nothing: these are definitions.
use Rattle.std.specs.Prelude.{◌≡◌, ℕ, List, ◌++◌, Result, OnOk}

-- unless no memory could be had, the bytes after it are those before it, and then more
abbrev pub Adds : {X E : Type 0} → Result X E → List ℕ → List ℕ → List ℕ → Type 0
Adds r before after more = OnOk r (after ≡ before ++ more)
