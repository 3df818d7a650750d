-- Four needs answered at once: one search finds four proofs, where a proof file would repeat it four times.
pub four : {A B C D : Type 0} {R : Type 2} → (A → B → C → D → R) → A × B × C × D → R
four f (a, b, c, d) = f a b c d
